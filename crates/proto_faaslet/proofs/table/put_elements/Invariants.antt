use Rattle.std.proofs.Common.{◌≡◌, map, take}
use Rattle.faaslet_meaning.specs.Fresh.{all_over}
use Rattle.proto_faaslet.specs.Instances.{element_of}
use Rattle.proto_faaslet.proofs.table.put_elements.Given as goal

abbrev pub invariant-loop-element : goal.invariant-loop-element
invariant-loop-element l = l.table ≡ all_over l.initial.table (map (element_of l.globals) (take l.element-index l.elements))

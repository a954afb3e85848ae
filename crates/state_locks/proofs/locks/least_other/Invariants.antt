-- After some of the readers: the least of the writer and of these, the maker's own aside.
use Rattle.std.proofs.Common.{◌≡◌, ◌++◌, option_to_list, take}
use Rattle.faaslet_meaning.specs.Lists.{least}
use Rattle.state_locks.specs.Locks.{apart_from}
use Rattle.state_locks.proofs.locks.least_other.Given as goal

abbrev pub invariant-loop-holder : goal.invariant-loop-holder
invariant-loop-holder l = l.least ≡ least (apart_from l.fn.maker (option_to_list l.fn.writer ++ take l.holder-index l.readers))

-- By what is known of lists.
use Rattle.std.specs.Prelude.{option_map}
use Rattle.std.proofs.lemmas.List.Elements.{filter_map-append}
use Rattle.faaslet_meaning.specs.Channels.{Operation, Reply}
use Rattle.call_service.specs.Asked.{by_call}
use Rattle.call_service.proofs.laws.told_as_joins.Goals as goal

pub returns : goal.returns
returns c = λ call before after. filter_map-append (λ (x : Operation × Reply). option_map (λ o. (o, x.1)) (by_call call x.0)) before after

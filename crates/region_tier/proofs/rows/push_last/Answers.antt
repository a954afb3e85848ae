-- The row of the maker is changed.
use Rattle.std.proofs.Common.{refl}
use Rattle.region_tier.proofs.At.{read_at}
use Rattle.region_tier.proofs.rows.push_last.Goals as goal

pub push-requires : goal.push-requires
push-requires c = c.requires.room c.args.maker c.index_mut.result.now (read_at c.args.rows.now.items c.args.maker c.index_mut.result.now c.requires.within c.index_mut.ensures.value) refl

pub returns : goal.returns
returns c = record { before = c.index_mut.result.now; after = c.push.new.self; at = read_at c.args.rows.now.items c.args.maker c.index_mut.result.now c.requires.within c.index_mut.ensures.value; put = refl; so = c.push.ensures }

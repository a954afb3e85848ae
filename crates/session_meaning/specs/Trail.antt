-- The history of a replica or of a global value without its bytes: for each entry its maker, which operation it is,
-- where it begins and how long it is. This project's own.
use Rattle.std.specs.Prelude.{ℕ, List, [], length, map, unwrap_or}
use Rattle.session_meaning.specs.declared.mark.Mark.{Mark}
use Rattle.faaslet_meaning.specs.declared.grant.Channel.{Channel}
use Rattle.faaslet_meaning.specs.declared.grant.Channel.TheVariants.{Local, Global, Table as OnTable}
use Rattle.faaslet_meaning.specs.Lists.{first}
use Rattle.faaslet_meaning.specs.Channels.{RegionOperation}
use Rattle.faaslet_meaning.specs.Spelling.{spelled}
use Rattle.session_meaning.specs.World.{World}
use Rattle.session_meaning.specs.WorldTold.{local_history, global_history}

-- the place of an operation, from 0, with which its spelling begins
abbrev pub row_of : RegionOperation → ℕ
row_of op = unwrap_or (first (spelled op)) 0

-- where it begins, 0 where it doesn't say
abbrev pub off_of : RegionOperation → ℕ
off_of (RegionOperation.read off len) = off
off_of (RegionOperation.send off len) = off
off_of (RegionOperation.write off bytes) = off
off_of (RegionOperation.take off bytes) = off
off_of (RegionOperation.put off bytes) = off
off_of op = 0

-- the length that it names or the number of its bytes, 0 where it has neither
abbrev pub len_of : RegionOperation → ℕ
len_of (RegionOperation.read off len) = len
len_of (RegionOperation.send off len) = len
len_of (RegionOperation.fill bytes) = length bytes
len_of (RegionOperation.write off bytes) = length bytes
len_of (RegionOperation.take off bytes) = length bytes
len_of (RegionOperation.put off bytes) = length bytes
len_of (RegionOperation.append bytes) = length bytes
len_of op = 0

abbrev pub mark : ℕ × RegionOperation → Mark
mark e = record { maker = e.0; row = row_of e.1; off = off_of e.1; len = len_of e.1 }

-- of the object to which a channel leads from a host; of the table there is none
abbrev pub trail : World → Channel → ℕ → List Mark
trail w (Local key) host = map mark (local_history w host key)
trail w (Global key) host = map mark (global_history w key)
trail w OnTable host = []

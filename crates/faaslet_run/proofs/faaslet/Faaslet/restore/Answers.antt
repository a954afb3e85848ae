use Rattle.std.proofs.Common.{sym, ap, ◌∙◌, subst}
use Rattle.faaslet_meaning.specs.Configuration.{goes}
use Rattle.faaslet_meaning.specs.Memory.{Backing, IsMemory}
use Rattle.region_map.specs.Segments.{Segmented}
use Rattle.wasm_interp.specs.StandsFor.{Agrees, StandsFor}
use Rattle.wasm_interp.specs.declared.machine.Machine.{Machine}
use Rattle.faaslet_run.specs.Places.{shape}
use Rattle.faaslet_run.proofs.Granted.{agrees}
use Rattle.faaslet_run.proofs.faaslet.Faaslet.restore.Goals as goal

pub returns-clause-stands : goal.returns-clause-stands
returns-clause-stands c =
    let p = c.args.proto.now in
    let w = c.allow.new.self.writable in
    let agreed = agrees w c.args.grants.now (ap (λ (m : Machine Segmented). m.writable) c.allow.ensures.only ∙ c.writable.ensures) in
    let same = c.sound.ensures.same in
    record {
      stands = λ g cfg for own made. subst (λ (m : Machine Segmented). StandsFor shape m p.code g.grants c.args.fuel (goes cfg)) (sym same) (c.restore.ensures.restored.stands g cfg for (subst (Agrees w) (sym own) agreed) made);
      sound = subst (λ (m : Machine Segmented). IsMemory m.memory.memory) (sym same) c.sound.ensures.sound;
    }

pub returns-clause-rooms : goal.returns-clause-rooms
returns-clause-rooms c =
    let same = c.sound.ensures.same in
    let r = c.restore.ensures.restored in
    record {
      globals = ap (λ (m : Machine Segmented). m.thread.globals.room) same ∙ r.rooms.globals ∙ ap (λ (m : Machine Segmented). m.thread.globals.room) c.allow.ensures.only;
      table = ap (λ (m : Machine Segmented). m.thread.table.room) same ∙ r.rooms.table ∙ ap (λ (m : Machine Segmented). m.thread.table.room) c.allow.ensures.only;
      pages = ap (λ (m : Machine Segmented). m.memory.room) same ∙ ap (λ (b : Backing). b.room) r.backing ∙ ap (λ (m : Machine Segmented). m.memory.room) c.allow.ensures.only;
    }

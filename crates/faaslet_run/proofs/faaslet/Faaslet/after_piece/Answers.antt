use Rattle.faaslet_run.proofs.Ending.{piece_goes_on}
use Rattle.faaslet_run.proofs.faaslet.Faaslet.after_piece.Goals as goal

pub resume_piece-requires : goal.resume_piece-requires
resume_piece-requires c =
    let (j, start, t, s, q, r, h) = c.requires in
    (h.work.stands.code, j.program.grants, start.config.fuel, s.config, h.work.begun, h.work.stands.stands)

pub returns-clause-goes : goal.returns-clause-goes
returns-clause-goes c = λ j start t s q r h.
    piece_goes_on c.args.self.now j start t s q r c.args.reply h c.resume_piece.new.self (c.resume_piece.ensures.done h.work.stands.code j.program.grants start.config.fuel s.config h.work.begun h.work.stands.stands)

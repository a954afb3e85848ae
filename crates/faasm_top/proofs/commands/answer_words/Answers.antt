use Rattle.std.specs.Prelude.{IsTrue}
use Rattle.faasm_top.specs.Answers.{code_of}
use Rattle.faasm_top.specs.Commands.{texts, command_of}
use Rattle.faasm_top.proofs.Dues.{words_due, reader_open, no_file}
use Rattle.faasm_top.proofs.commands.answer_words.Goals as goal

pub returns-clause-due : goal.returns-clause-due
returns-clause-due g c = words_due (command_of c.in-Ok.command) (texts c.args.words.now) _ _ _ c.answer_command.result c.in-Ok.ensures.found c.answer_command.ensures.due

pub returns-clause-untouched : goal.returns-clause-untouched
returns-clause-untouched g c = λ none. c.answer_command.ensures.untouched (no_file (command_of c.in-Ok.command) (texts c.args.words.now) none c.in-Ok.ensures.found)

pub returns-clause-left_open : goal.returns-clause-left_open
returns-clause-left_open g c = reader_open (command_of c.in-Ok.command) (texts c.args.words.now) (IsTrue (g.F.Shelf.is_open c.answer_command.new.shelf)) c.answer_command.result c.in-Ok.ensures.found c.answer_command.ensures.left_open

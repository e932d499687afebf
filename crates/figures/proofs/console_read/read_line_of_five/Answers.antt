use Rattle.std.proofs.Common.{ℕ, ap, ◌∙◌}
use Rattle.format.specs.declared.ccw.Format.TheVariants.{Zero}
use Rattle.channel.specs.Steps.{World, advanced, word_of}
use Rattle.console.specs.ConsoleMachine.{console_machine}
use Rattle.console.specs.Meaning.{meaning}
use Rattle.figures.specs.Cases.{read_program}
use Rattle.figures.proofs.console_read.read_line_of_five.Goals as goal

pub returns-clause-is : goal.returns-clause-is
returns-clause-is c =
    let st = read_program c.args.count in
    let p = c.start-program.result in
    let ran = ap (λ (r : ℕ × World console_machine). word_of r.1.run) c.advance.ensures.world in
    let written = ap (λ b. word_of (advanced console_machine p.format 1 (record { storage = b; state = meaning c.in_ok-console.console; run = p.run })).1.run) c.storage_with-storage.ensures in
    let in_format = ap (λ f. word_of (advanced console_machine f 1 (record { storage = st; state = meaning c.in_ok-console.console; run = p.run })).1.run) c.start-program.ensures.0 in
    let on_console = ap (λ s. word_of (advanced console_machine Zero 1 (record { storage = st; state = s; run = p.run })).1.run) c.in_ok-console.ensures.1 in
    let from_start = ap (λ r. word_of (advanced console_machine Zero 1 (record { storage = st; state = _; run = r })).1.run) c.start-program.ensures.1 in
    c.status.ensures ∙ ran ∙ written ∙ in_format ∙ on_console ∙ from_start

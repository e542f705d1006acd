-- `text::ask_part` meets its contract: by what the leaf comes to under Truncate. Assumes nothing.
use Rattle.std.proofs.Common.{option_copied, sym, ◌∙◌}
use Rattle.expr.specs.Operators.{by_arity}
use Rattle.ask.proofs.PartAnswers.{text_cut}
use Rattle.ask.proofs.text.ask_part.Goals as goal

pub returns-in-Truncate : goal.returns-in-Truncate
returns-in-Truncate c =
    let x = c.args.leaf in
    c.test_projected.ensures ∙ sym (text_cut c.args.question x.column x.transform (by_arity x.operator) x.one x.literal.now (option_copied c.args.value)
    (sym c.result_type.ensures ∙ c.in_ok-result_type.was) c.in-Truncate.is _ c.project_bytes-p.ensures.says)

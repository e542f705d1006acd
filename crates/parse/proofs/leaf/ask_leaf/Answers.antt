-- `leaf::ask_leaf` meets its contract. Assumes nothing.
use Rattle.std.proofs.Common.{sym, ap}
use Rattle.values.specs.laws.SignedLaws.{back}
use Rattle.leaves.specs.code.SymbolAnswers.{literal_of}
use Rattle.parse.specs.laws.AskingLaws.{value_fits, held, asks_number, asks_text}
use Rattle.parse.proofs.leaf.ask_leaf.Goals as goal

pub ask_number-requires : goal.ask_number-requires
ask_number-requires c = rw (c.fields_at-column.ensures, c.value_at-value.ensures) (value_fits c.args.request.now c.args.leaf.place (c.requires.1).placed)

pub returns-in-Number : goal.returns-in-Number
returns-in-Number c = λ l is.
    let number = ap (literal_of c.args.request.now.text.now) c.in-Number.is in
    rw (c.ask_number.ensures, c.fields_at-column.ensures, c.value_at-value.ensures, c.turned-operator.ensures, ← is.head)
    (rw (back (held c.args.request.now c.args.negate c.args.leaf l is c.in-Number.literal number))
    (sym (asks_number c.args.request.now c.args.negate c.args.leaf l is c.in-Number.literal number)))

pub returns-in-Text : goal.returns-in-Text
returns-in-Text c = λ l is.
    rw (c.ask_text.ensures, c.fields_at-column.ensures, c.value_at-value.ensures, c.turned-operator.ensures, ← is.head)
    (sym (asks_text c.args.request.now c.args.negate c.args.leaf l is _ (ap (literal_of c.args.request.now.text.now) c.in-Text.is)))

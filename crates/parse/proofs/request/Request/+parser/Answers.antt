-- The routines for or, and, not and brackets meet their contracts. Assumes nothing.
use Rattle.std.proofs.Common.{◌≡◌, ◌≢◌, arith, rules}
use Rattle.parse.specs.declared.read.Ahead.TheVariants as ahead
use Rattle.parse.proofs.Loops.{first_missed, first_read, last_read, right_missed, next_read}
use Rattle.parse.proofs.Singles.{one_not, leaf_there, nothing_there, deep_missed, deep_passed, inner_missed, bracket_missed, bracket_closed}
use Rattle.parse.proofs.request.Request.+parser.Goals as goal

pub parse_chain-returns-in_err-left : goal.parse_chain-returns-in_err-left
parse_chain-returns-in_err-left t c =
    let a = c.args in
    rw c.from_residual.ensures (first_missed a.self.now a.word a.negate a.opened a.at c.in_err-left.ensures)

pub parse_chain-loop-word-init : goal.parse_chain-loop-word-init
parse_chain-loop-word-init t c = let a = c.args in first_read a.self.now a.word a.negate a.opened a.at _ c.in_ok-left.ensures

pub parse_chain-returns-in_err-right : goal.parse_chain-returns-in_err-right
parse_chain-returns-in_err-right t c =
    let a = c.args in
    let same : c.loop-word.left.ahead ≡ ahead.Word a.word = search rules in
    rw c.from_residual-in_err-right.ensures (right_missed a.self.now a.word a.negate a.opened a.at _ c.loop-word.invariant same c.in_err-right.ensures)

pub parse_chain-loop-word-preserved : goal.parse_chain-loop-word-preserved
parse_chain-loop-word-preserved t c =
    let a = c.args in
    let same : c.loop-word.left.ahead ≡ ahead.Word a.word = search rules in
    rw (c.join_reads-left.ensures, c.joins_all.ensures) (next_read a.self.now a.word a.negate a.opened a.at _ c.loop-word.invariant same _ c.in_ok-right.ensures)

pub parse_chain-returns : goal.parse_chain-returns
parse_chain-returns t c =
    let a = c.args in
    let other : c.loop-word.left.ahead ≢ ahead.Word a.word = search rules in
    last_read a.self.now a.word a.negate a.opened a.at _ c.loop-word.invariant other

pub parse_part-returns-in-Or : goal.parse_part-returns-in-Or
parse_part-returns-in-Or t c = rw c.in-Or.is c.parse_and.ensures

pub parse_part-returns-in-And : goal.parse_part-returns-in-And
parse_part-returns-in-And t c = rw c.in-And.is c.parse_not.ensures

-- ---- nots
pub parse_not-loop-turned-preserved : goal.parse_not-loop-turned-preserved
parse_not-loop-turned-preserved t c =
    let a = c.args in
    one_not a.self.now a.at a.negate a.opened _ _ c.loop-turned.invariant _ (rw c.in-Not.is at c.symbol_at-symbol.ensures)

pub parse_not-returns-in-Leaf : goal.parse_not-returns-in-Leaf
parse_not-returns-in-Leaf t c =
    let a = c.args in
    leaf_there a.self.now a.at a.negate a.opened _ _ c.loop-turned.invariant _ _ (rw c.in-Leaf.is at c.symbol_at-symbol.ensures) c.requires.few
    _ c.ask_leaf-answer.ensures _ (record { is = c.filter_to.ensures.is; seen = c.filter_to.ensures.seen })

pub parse_not-returns-in_default : goal.parse_not-returns-in_default
parse_not-returns-in_default t c =
    let a = c.args in
    nothing_there a.self.now a.at a.negate a.opened _ _ c.loop-turned.invariant _ _ c.symbol_at-symbol.ensures
    c.in_default.not-Not c.in_default.not-Leaf c.in_default.not-Opening

-- ---- brackets
pub parse_bracket-returns-in_err-next : goal.parse_bracket-returns-in_err-next
parse_bracket-returns-in_err-next t c =
    let a = c.args in
    rw c.from_residual.ensures (deep_missed a.self.now a.at a.negate a.opened c.in_err-next.ensures)

pub parse_bracket-returns-then-opened-eq-BRACKET_LIMIT : goal.parse_bracket-returns-then-opened-eq-BRACKET_LIMIT
parse_bracket-returns-then-opened-eq-BRACKET_LIMIT t c =
    let a = c.args in
    deep_passed a.self.now a.at a.negate a.opened _ c.in_ok-next.ensures (omega arith) _ _ (record { is = c.filter_to.ensures.is; seen = c.filter_to.ensures.seen })

pub parse_bracket-returns-in_err-inner : goal.parse_bracket-returns-in_err-inner
parse_bracket-returns-in_err-inner t c =
    let a = c.args in
    rw c.from_residual-in_err-inner.ensures (inner_missed a.self.now a.at a.negate a.opened c.in_err-inner.ensures)

pub parse_bracket-returns-then-ne : goal.parse_bracket-returns-then-ne
parse_bracket-returns-then-ne t c =
    let a = c.args in
    let other : c.in_ok-inner.inner.ahead ≢ ahead.Closing = search rules in
    bracket_missed a.self.now a.at a.negate a.opened _ c.in_ok-inner.ensures other

pub parse_bracket-returns : goal.parse_bracket-returns
parse_bracket-returns t c =
    let a = c.args in
    let shut : c.in_ok-inner.inner.ahead ≡ ahead.Closing = search rules in
    bracket_closed a.self.now a.at a.negate a.opened _ c.in_ok-inner.ensures shut _ (record { is = c.filter_to-2.ensures.is; seen = c.filter_to-2.ensures.seen })

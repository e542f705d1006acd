-- The routines for or, and, not and brackets meet their contracts. The measure is the bytes left, eight times, and which routine it is. A loop's invariant says what
-- was read so far, and its measure is the bytes left. Assumes nothing.
use Rattle.std.proofs.Common.{ℕ, ◌+◌, ◌-◌, ◌*◌, length}
use Rattle.parse.specs.declared.read.Word.{Word}
use Rattle.parse.specs.declared.read.Word.TheVariants.{And, Or}
use Rattle.parse.proofs.Loops.{Chaining}
use Rattle.parse.proofs.Singles.{Nots}
use Rattle.parse.proofs.request.Request.+parser.Given as goal

abbrev pub rank : Word → ℕ
rank And = 2
rank Or = 5

abbrev pub decreases-parse_not : goal.decreases-parse_not
decreases-parse_not l = 8 * (length l.self.now.text.now - l.at) + 1

abbrev pub decreases-parse_part : goal.decreases-parse_part
decreases-parse_part l = 8 * (length l.self.now.text.now - l.at) + rank l.word

abbrev pub decreases-parse_chain : goal.decreases-parse_chain
decreases-parse_chain l = 8 * (length l.self.now.text.now - l.at) + rank l.word + 1

abbrev pub decreases-parse_and : goal.decreases-parse_and
decreases-parse_and l = 8 * (length l.self.now.text.now - l.at) + 4

abbrev pub decreases-parse_or : goal.decreases-parse_or
decreases-parse_or l = 8 * (length l.self.now.text.now - l.at) + 7

abbrev pub decreases-parse_bracket : goal.decreases-parse_bracket
decreases-parse_bracket l = 8 * (length l.self.now.text.now - l.at) + 8

abbrev pub invariant-parse_chain-loop-word : goal.invariant-parse_chain-loop-word
invariant-parse_chain-loop-word l = Chaining l.self l.word l.negate l.opened l.at l.left

abbrev pub decreases-parse_chain-loop-word : goal.decreases-parse_chain-loop-word
decreases-parse_chain-loop-word l = length l.self.text.now - l.left.next

abbrev pub invariant-parse_not-loop-turned : goal.invariant-parse_not-loop-turned
invariant-parse_not-loop-turned l = Nots l.self l.at l.negate l.opened l.here l.turned

abbrev pub decreases-parse_not-loop-turned : goal.decreases-parse_not-loop-turned
decreases-parse_not-loop-turned l = length l.self.text.now - l.here

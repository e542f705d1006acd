-- `number::project_one` meets its contract: under Identity the leaf itself is written, else what it comes to. Assumes nothing.
use Rattle.std.proofs.Common.{rules, ◌≡◌, refl, ◌∙◌, w64, Ok}
use Rattle.values.specs.laws.SignedLaws.{back, ok}
use Rattle.answers.specs.laws.NumberLeafLaws.{literal_of, literal_inside, one_itself, itself_inside, one_projected, projected_inside}
use Rattle.answers.specs.laws.SettledLaws.{settled_as}
use Rattle.answers.proofs.NumberAnswers.{seen}
use Rattle.answers.proofs.OtherTransforms.{not_identity}
use Rattle.answers.proofs.number.project_one.Goals as goal
use Rattle.answers.proofs.number.project_one.Goals.{After-number-l, in-Identity, in_default+in_ok-p-in_default}

-- the literal that was read
told : (c : After-number-l) → seen c.number-l.result ≡ literal_of c.args.x
told c = back {w = w64} (ok _ c.number-l.type_inv) ∙ c.number-l.ensures.is

pub project_number-requires : goal.project_number-requires
project_number-requires c = rw (told (goal.at.project_number-requires c).After-number-l) (literal_inside c.args.x c.requires.number_column)

pub returns-in_err-p-in_default : goal.returns-in_err-p-in_default
returns-in_err-p-in_default c =
    let s = c.requires in
    let other = not_identity c.args.x.sheet.transform c.in_default.not-Identity in
    let projected = rw (told (goal.at.returns-in_err-p-in_default c).After-number-l) at c.project_number.ensures.projected in
    let is = one_projected c.args.x s.number_column s.known s.operator_value other _ projected in
    rw (is, c.in_err-p-in_default.was) (record { number = search rules; left = refl })

pub put_projection-requires-clause-numbers_in : goal.put_projection-requires-clause-numbers_in
put_projection-requires-clause-numbers_in c =
    let x = c.args.x in
    let s = c.requires in
    let literal = told (goal.at.put_projection-requires-clause-numbers_in c).After-number-l in
    elim c.match-transform.branch [
      | in-Identity w ↦ rw (w.p-is, literal) (itself_inside x s.number_column s.known s.operator_value w.in-Identity.is)
      | in_default+in_ok-p-in_default w ↦
          let other = not_identity x.sheet.transform w.in_default.not-Identity in
          let p = w.in_ok-p-in_default in
          rw w.p-is (projected_inside x s.number_column s.known s.operator_value other p.p (rw literal at p.ensures.projected) p.ensures.one)
    ]

pub returns : goal.returns
returns c =
    let x = c.args.x in
    let s = c.requires in
    let literal = told (goal.at.returns c).After-number-l in
    elim c.match-transform.branch [
      | in-Identity w ↦
          settled_as (one_itself x s.number_column s.known s.operator_value w.in-Identity.is) (rw (w.p-is, literal) at c.put_projection.ensures)
      | in_default+in_ok-p-in_default w ↦
          let other = not_identity x.sheet.transform w.in_default.not-Identity in
          let p = w.in_ok-p-in_default in
          settled_as (one_projected x s.number_column s.known s.operator_value other (Ok p.p) (rw literal at p.ensures.projected)) (rw w.p-is at c.put_projection.ensures)
    ]

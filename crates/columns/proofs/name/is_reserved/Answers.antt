-- `name::is_reserved` meets its contract. Assumes nothing.
use Rattle.std.proofs.Common.{◌∙◌}
use Rattle.columns.specs.laws.NameLaws.{same_word}
use Rattle.columns.proofs.name.is_reserved.Goals as goal

pub returns : goal.returns
returns c = c.contains.ensures.value ∙ simp same_word

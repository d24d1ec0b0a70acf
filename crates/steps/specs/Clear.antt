-- Inner contract. Items at which no rule of a list is broken. Assumes nothing.
use Rattle.std.specs.Prelude.{Bool, true, not, ◌&&◌, List, [], ◌∷◌, ◌++◌, eqb}
use Rattle.names.specs.Words.{any}
use Rattle.records.specs.Items.{What, Item}
use Rattle.rules.specs.declared.Rule.{Rule}
use Rattle.rules.specs.Rules.{number, Known, Here, broken}

-- no rule of the list is broken at w, where `before` are the items earlier in the same body
unfoldable pub clear_of : Known → Here → List Rule → List What → What → Bool
clear_of k h [] before w = true
clear_of k h (r ∷ rs) before w = not (broken k h before r w) && clear_of k h rs before w

-- nor at any of the items
unfoldable pub clear_along : Known → Here → List Rule → List What → List Item → Bool
clear_along k h rs before [] = true
clear_along k h rs before (i ∷ is) = clear_of k h rs before i.what && clear_along k h rs (before ++ (i.what ∷ [])) is

-- each rule of the one list is one of the other
unfoldable pub among : List Rule → List Rule → Bool
among [] others = true
among (r ∷ rs) others = any (λ (q : Rule). eqb (number r) (number q)) others && among rs others

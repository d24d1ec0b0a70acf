-- Entries stored part by part, as the laws of a visitor say it. Assumes nothing.
use Rattle.std.specs.Prelude.{◌≡◌, List, [], ◌∷◌, ◌++◌, refl}
use Rattle.std.proofs.Common.{◌∙◌}
use Rattle.symbols.specs.declared.Places.{Places}
use Rattle.symbols.specs.Numbers.{St, store, store_all}

-- none
pub store-none : (s : St) → s ≡ store_all s []
unfolding store_all
store-none s = refl

-- some, and then others
pub store-both : (ps qs : List Places) (s : St) → store_all s (ps ++ qs) ≡ store_all (store_all s ps) qs
unfolding store_all
store-both [] qs s = refl
store-both (p ∷ ps) qs s = store-both ps qs (store s p)

pub store-then : (s t u : St) (ps qs : List Places) → t ≡ store_all s ps → u ≡ store_all t qs → u ≡ store_all s (ps ++ qs)
store-then s t u ps qs a b = b ∙ rw (store-both ps qs s, ← a)

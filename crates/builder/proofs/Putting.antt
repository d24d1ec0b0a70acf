-- Putting bytes in two steps.
use Rattle.std.proofs.Common.{◌≡◌, ℕ, ◌-◌, zero, suc, List, [], ◌∷◌, ◌++◌, length, take, refl, ap, sym, append_assoc, arith}
use Rattle.std.proofs.lemmas.List.{length-append}
use native.Mathlib.Numerals.{unary_clauses}
use Rattle.builder.specs.Building.{Building, Puts}

-- the front of two lists
take_append : (n : ℕ) (xs ys : List ℕ) → take n (xs ++ ys) ≡ take n xs ++ take (n - length xs) ys
take_append zero [] ys = refl
take_append (suc n) [] ys =
    let all : suc n - 0 ≡ suc n = omega arith in
    ap (λ k. take k ys) (sym all)
take_append zero (x ∷ xs) ys =
    let none : 0 - suc (length xs) ≡ 0 = omega arith in
    ap (λ k. take k ys) (sym none)
take_append (suc n) (x ∷ xs) ys = simp unary_clauses (ap (λ l. x ∷ l) (take_append n xs ys))

pub puts_then : (a b c : Building) (s t : List ℕ) → Puts a s b → Puts b t c → Puts a (s ++ t) c
puts_then a b c s t p q = record {
  bytes = rw (q.bytes, p.bytes, p.room, take_append, append_assoc) refl;
  room = omega (arith, p.room, q.room, length-append s t);
}

-- The names of a section put into a set one after the other, as far as it has room. Assumes nothing.
use mathlib.Core.Path.{◌≡◌, refl, ◌∙◌, ap}
use mathlib.Core.Bool.{Bool, true, false}
use mathlib.Core.List.{List, [], ◌∷◌}
use Prim.Native.Nat.{ℕ, zero, suc, ◌+◌, ◌-◌, ◌≤◌, ◌<◌}
use native.Mathlib.Omega.{arith}
use native.Mathlib.Numerals.{add-one}
use lib.ListN.{length, get_or, take, drop, length-drop}
use lib.Seq.{drop-cons}
use Rattle.names.specs.Words.{Bytes, one_of}
use Rattle.names.specs.Counted.{name_at}
use Rattle.names.proofs.Counted.{part-whole}
use Rattle.story.specs.Story.{Name, words}
use Rattle.story.specs.Flows.{names_n, names_in, part}
use Rattle.searches.proofs.Parts.{part-drop, part-take}
use Rattle.searches.proofs.Answers.{section-answer}
use Rattle.std.specs.Prelude.{Result, is_err}
use Rattle.sets.specs.declared.Full.{Full}
use Rattle.sets.specs.Sets.{name_slots, held, PutIn, Holding, Without}
use Rattle.sets.specs.Known.{section_words, NamesPut}
use Rattle.sets.proofs.Holding.{put_other, same_start, same_next, holding-start, holding-next, holding-stop, holding-left}

-- 1. The names of a section

-- more turns than there are bytes change nothing
names-turns : (n m at : ℕ) (s : List ℕ) → length s ≤ n → length s ≤ m → names_n n at s ≡ names_n m at s
unfolding names_n
names-turns zero zero at s h k = refl
names-turns zero (suc m) at [] h k = refl
names-turns zero (suc m) at (x ∷ s) h k = absurd (omega arith)
names-turns (suc n) zero at [] h k = refl
names-turns (suc n) zero at (x ∷ s) h k = absurd (omega arith)
names-turns (suc n) (suc m) at [] h k = refl
names-turns (suc n) (suc m) at (x ∷ s) h k =
    rw (names-turns n m (at + (1 + x)) (drop x s) (simp length-drop (omega arith)) (simp length-drop (omega arith)))

names-first : (at x : ℕ) (s : List ℕ) → words (names_in at (x ∷ s)) ≡ take x s ∷ words (names_in (at + (1 + x)) (drop x s))
unfolding names_in names_n
names-first at x s =
    ap (λ (l : List Name). take x s ∷ words l)
    (names-turns (length s) (length (drop x s)) (at + (1 + x)) (drop x s) (simp length-drop (omega arith)) (omega arith))

part-cons : (a b : ℕ) (s : List ℕ) → a < b → b ≤ length s → part a b s ≡ get_or s a 0 ∷ part (a + 1) b s
unfolding part
part-cons a b s h k =
    let one : b - a ≡ suc (b - (a + 1)) = omega arith in
    let inside : a < length s = omega arith in rw (one, drop-cons s a 0 inside, add-one)

module _ (file : List ℕ) (at to : ℕ) (h : at < to) (k : to ≤ length file) (fits : at + 1 + get_or file at 0 ≤ to) where
  whole : take (get_or file at 0) (part (at + 1) to file) ≡ name_at file at
  unfolding part
  whole = part-take (get_or file at 0) (at + 1) to file fits ∙ part-whole file at

  section-step : section_words file at to ≡ name_at file at ∷ section_words file (at + 1 + get_or file at 0) to
  section-step =
      let next : at + (1 + get_or file at 0) ≡ at + 1 + get_or file at 0 = omega arith in
      rw (part-cons at to file h k, names-first at (get_or file at 0) (part (at + 1) to file), whole, part-drop (get_or file at 0) (at + 1) to file, next)

-- 2. Filling a set

pub names-start : {file before : List ℕ} {class from to : ℕ} → Without (name_slots file) class before → from ≤ to → NamesPut file class from to before before from
names-start {file} {before} {from = from} {to = to} e h = record {
  inside = h;
  names = holding-start (section_words file from to) e;
  others = λ d z. same_start (name_slots file) d before;
}

module _ {file before set : List ℕ} {class from at to : ℕ} (f : NamesPut file class from to before set at)
    {after : List ℕ} {r : Result Bool Full} {b : Bool} (p : PutIn (name_slots file) (class ∷ name_at file at) set after r) (e : b ≡ is_err r) where
  pub names-next : at < to → to ≤ length file → at + 1 + get_or file at 0 ≤ to → b ≡ false → NamesPut file class from to before after (at + 1 + get_or file at 0)
  names-next h l k q = record {
    inside = k;
    names = holding-next f.names (section-step file at to h l k) p e q;
    others = λ d z. same_next (f.others d z) (put_other p d z);
  }

  -- there was no room
  pub names-full : b ≡ true → NamesPut file class from to before after at
  names-full q = record {
    inside = f.inside;
    names = holding-stop f.names p e q;
    others = λ d z. same_next (f.others d z) (put_other p d z);
  }

-- 3. Asking for a word

module _ (file : List ℕ) (rest to : ℕ) {set : List ℕ} {class : ℕ} {all : List Bytes} (h : Holding (name_slots file) class set all (section_words file rest to)) (w : Bytes)
    {b : Bool} (e : b ≡ one_of (class ∷ w) (held (name_slots file) set)) where
  pub section-left : {r : Bool} → b ≡ false → r ≡ one_of w (words (names_in 0 (take (to - rest) (drop rest file)))) → r ≡ one_of w all
  section-left q a = holding-left h w e q (section-answer file w rest to a)

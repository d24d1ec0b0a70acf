-- The laws of the visits of entries: part by part, as the laws of a visitor say it. Assumes nothing.
use mathlib.Core.Path.{◌≡◌, refl, sym, ◌∙◌, ap}
use mathlib.Core.Bool.{Bool, ◌||◌, or_assoc, or-false}
use mathlib.Core.List.Memᴰ
use mathlib.Core.List.{List, [], ◌∷◌, ◌++◌, map, map-append}
use Prim.Native.Nat.{ℕ, ◌+◌}
use native.Mathlib.Omega.{arith}
use lib.ListN.{length, length-append}
use Rattle.names.specs.Words.{any}
use Rattle.names.proofs.Any.{any_append}
use Rattle.sets.specs.Sets.{Reachable}
use Rattle.symbols.specs.declared.Places.{Places}
use Rattle.symbols.specs.Rows.{spelling_in}
use Rattle.symbols.specs.Fits.{answers}
use Rattle.targets.specs.Slots.{end_slots}
use Rattle.targets.specs.Entries.{Put}
use Rattle.targets.proofs.Filling.{put-none, put-append}
use Rattle.enumerator.specs.declared.Seen.{Seen}
use Rattle.symbols.specs.Numbers.{St, st}
use Rattle.enumerator.specs.Numbers.{store, store_all}
use Rattle.enumerator.specs.Visited.{Ready, Visited}

-- 1. Entries counted and stored

pub store-append : (ps qs : List Places) (s : St) → store_all s (ps ++ qs) ≡ store_all (store_all s ps) qs
unfolding store_all
store-append [] qs s = refl
store-append (p ∷ ps) qs s = store-append ps qs (store s p)

-- each is counted
pub store-count : (ps : List Places) (s : St) → (store_all s ps).count ≡ s.count + length ps
unfolding store store_all
store-count [] s = omega arith
store-count (p ∷ ps) s = omega (arith, store-count ps (store s p))

-- 2. Lists of entries

-- some entry of either list answers
answers-append : (file target : List ℕ) (ps qs : List Places) → any (answers target) (map (spelling_in file) (ps ++ qs))
    ≡ any (answers target) (map (spelling_in file) ps) || any (answers target) (map (spelling_in file) qs)
answers-append file target ps qs =
    ap (any (answers target)) (map-append (spelling_in file) ps qs) ∙ any_append (answers target) (map (spelling_in file) ps) (map (spelling_in file) qs)

module _ {file target index set : List ℕ} {seen : Seen} where
  -- no entry
  pub visited-none : Reachable (end_slots file) set → Visited file target [] index set seen index set seen
  unfolding store_all
  visited-none r = record { stored = refl; put = put-none file r; asked = sym (or-false seen.found) }

  -- one entry, by its three outputs
  pub visited-one : {p : Places} {index' set' : List ℕ} {n : ℕ} {l f : Bool} → st index' n ≡ store (st index seen.count) p
      → Put file (p ∷ []) set set' seen.left l → f ≡ seen.found || answers target (spelling_in file p)
      → Visited file target (p ∷ []) index set seen index' set' (record { count = n; left = l; found = f })
  unfolding store_all
  visited-one {p} s i a = record { stored = s; put = i; asked = a ∙ rw (or-false (answers target (spelling_in file p))) }

  module _ {ps : List Places} {index' set' : List ℕ} {seen' : Seen} (v : Visited file target ps index set seen index' set' seen') where
    -- entries, and others after them
    pub visited-append : {qs : List Places} {index'' set'' : List ℕ} {seen'' : Seen} → Visited file target qs index' set' seen' index'' set'' seen''
        → Visited file target (ps ++ qs) index set seen index'' set'' seen''
    visited-append {qs} w = record {
      stored = w.stored ∙ rw (store-append ps qs (st index seen.count), v.stored);
      put = put-append v.put w.put;
      asked = w.asked ∙ rw (v.asked, answers-append file target ps qs, or_assoc seen.found (any (answers target) (map (spelling_in file) ps)) (any (answers target) (map (spelling_in file) qs)));
    }

    -- so many more are counted
    pub visited-count : seen'.count ≡ seen.count + length ps
    visited-count = ap (λ (s : St). s.count) v.stored ∙ store-count ps (st index seen.count)

    -- those after them can be visited
    pub ready-rest : {qs : List Places} → Ready file (ps ++ qs) set seen.count → Ready file qs set' seen'.count
    ready-rest {qs} r = record {
      few = omega (arith, r.few, visited-count, length-append ps qs);
      fit = λ p m. r.fit p (Memᴰ.append_right ps m);
      reachable = v.put.reachable;
    }

-- the first of them can be visited
pub ready-first : (ps qs : List Places) {all : List Places} {file set : List ℕ} {n : ℕ} → all ≡ ps ++ qs → Ready file all set n → Ready file ps set n
ready-first ps qs e r =
    let s = rw e at r in
    record { few = omega (arith, s.few, length-append ps qs); fit = λ p m. s.fit p (Memᴰ.append_left qs m); reachable = r.reachable }

-- 3. From one state of a visitor to another

-- entries, and others after them, of the same file and target
pub visited-then : {file target file' target' index set index' set' index'' set'' : List ℕ} {seen seen' seen'' : Seen} (ps qs : List Places)
    → Visited file target ps index set seen index' set' seen' → Visited file' target' qs index' set' seen' index'' set'' seen'' → file' ≡ file → target' ≡ target
    → Visited file target (ps ++ qs) index set seen index'' set'' seen''
visited-then ps qs v w e f = visited-append v (rw (e, f) at w)

-- those after them can be visited
pub ready-then : {file target file' index set index' set' : List ℕ} {seen seen' : Seen} (ps qs : List Places)
    → Ready file (ps ++ qs) set seen.count → Visited file target ps index set seen index' set' seen' → file' ≡ file → Ready file' qs set' seen'.count
ready-then ps qs r v e = rw e (ready-rest v r)

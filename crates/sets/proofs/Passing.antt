-- The names of items put into a set item by item, as far as it has room. Assumes nothing.
use mathlib.Core.Path.{◌≡◌, refl, sym, ◌∙◌, subst}
use mathlib.Core.Bool.{Bool, true, false, ◌||◌, or_assoc, or-false}
use mathlib.Core.List.Memᴰ
use mathlib.Core.List.{List, [], ◌∷◌, ◌++◌}
use Prim.Native.Nat.{ℕ, zero, suc, ◌+◌, ◌-◌, ◌≤◌, ◌<◌}
use native.Mathlib.Omega.{arith}
use native.Mathlib.Numerals.{add-one}
use lib.ListN.{length, get_or, take, drop, length-take, drop_of_length-le}
use lib.Seq.{take-suc, drop-append-le}
use Rattle.names.specs.Words.{Bytes, same, one_of, ◌∈◌}
use Rattle.names.specs.Counted.{name_at}
use Rattle.records.specs.Numbers.{item_in}
use Rattle.records.proofs.Places.{drop-take}
use Rattle.items.specs.declared.named.Sought.{Sought}
use Rattle.items.specs.Search.{of_sort, bears, found_among}
use Rattle.items.specs.Standing.{NamesStand}
use Rattle.std.specs.Prelude.{Result, is_err}
use Rattle.sets.specs.declared.Full.{Full}
use Rattle.sets.specs.Sets.{name_slots, held, Reachable, PutIn, Same, Without}
use Rattle.sets.specs.Members.{found_in, Members, MembersPut}
use Rattle.sets.proofs.Holding.{put-own, put_other, same_start, same_next}

-- 1. One item more

-- an item by its number is one of the list
pub at_in : (xs : List ℕ) (i : ℕ) → i < length xs → get_or xs i 0 ∈ xs
at_in [] i h = absurd (omega arith)
at_in (x ∷ xs) zero h = Memᴰ.head refl
at_in (x ∷ xs) (suc i) h = Memᴰ.tail (at_in xs i (omega arith))

module _ (s : Sought) (file : List ℕ) (w : Bytes) where
  -- of two lists
  found-append : (xs ys : List ℕ) → found_in s file (xs ++ ys) w ≡ found_in s file xs w || found_in s file ys w
  unfolding found_among
  found-append [] ys = refl
  found-append (x ∷ xs) ys = rw (found-append xs ys) (sym (or_assoc (bears s w (item_in file x).what) (found_in s file xs w) (found_in s file ys w)))

  -- of one item
  found-one : (x : ℕ) → found_in s file (x ∷ []) w ≡ bears s w (item_in file x).what
  unfolding found_among
  found-one x = or-false (bears s w (item_in file x).what)

  -- of no item
  found_none : found_in s file [] w ≡ false
  unfolding found_among
  found_none = refl

  -- one more of the items
  found-next : (xs : List ℕ) (x : ℕ) → found_in s file (xs ++ (x ∷ [])) w ≡ found_in s file xs w || bears s w (item_in file x).what
  found-next xs x = found-append xs (x ∷ []) ∙ rw (found-one x)

module _ (items : List ℕ) (i : ℕ) (h : i < length items) where
  -- the first i + 1 items
  take_next : take (i + 1) items ≡ take i items ++ (get_or items i 0 ∷ [])
  take_next = rw (add-one, take-suc items i 0 h)

-- of the first i items none is left from i on
drop_all : (items : List ℕ) (i : ℕ) → drop i (take i items) ≡ []
drop_all items i = drop_of_length-le (take i items) {i = i} (omega (arith, length-take i items))

-- 2. Item after item

module _ {s : Sought} {file : List ℕ} {class : ℕ} {items : List ℕ} {i : ℕ} {set : List ℕ} {rest : ℕ} (m : Members s file class items i set rest) (h : i < length items) where
  -- the item is left where nothing is put from `rest` on
  members-left : Members s file class items (i + 1) set rest
  members-left = record { reachable = m.reachable; inside = (omega arith, omega arith); names = names }
    where
      names : (w : Bytes) → found_in s file (take (i + 1) items) w ≡ one_of (class ∷ w) (held (name_slots file) set) || found_in s file (drop rest (take (i + 1) items)) w
      names w =
          rw (take_next items i h, drop-append-le rest (take i items) (get_or items i 0 ∷ []) (omega (arith, length-take i items)))
          (rw (found-next s file w (take i items) (get_or items i 0), found-next s file w (drop rest (take i items)) (get_or items i 0)) (rw (m.names w) (or_assoc (one_of (class ∷ w) (held (name_slots file) set)) (found_in s file (drop rest (take i items)) w) (bears s w (item_in file (get_or items i 0)).what))))

  -- the same from an equal number on
  left-from : (r : ℕ) → r ≡ rest → Members s file class items (i + 1) set r
  left-from r e = rw e members-left

  -- nothing was left
  names-whole : i ≤ rest → (w : Bytes) → found_in s file (take i items) w ≡ one_of (class ∷ w) (held (name_slots file) set)
  names-whole l w = m.names w ∙ rw (drop_of_length-le (take i items) {i = rest} (omega (arith, length-take i items)), found_none s file w) (or-false (one_of (class ∷ w) (held (name_slots file) set)))

  -- the names of the items up to this one are those that the set holds after it
  module _ {after : List ℕ} (l : i ≤ rest) where
    members-whole : Reachable (name_slots file) after
        → ((w : Bytes) → one_of (class ∷ w) (held (name_slots file) after) ≡ one_of (class ∷ w) (held (name_slots file) set) || bears s w (item_in file (get_or items i 0)).what)
        → Members s file class items (i + 1) after (i + 1)
    members-whole a e = record { reachable = a; inside = (omega arith, omega arith); names = names }
      where
        names : (w : Bytes) → found_in s file (take (i + 1) items) w ≡ one_of (class ∷ w) (held (name_slots file) after) || found_in s file (drop (i + 1) (take (i + 1) items)) w
        names w =
            rw (drop_all items (i + 1), found_none s file w, take_next items i h, found-next s file w (take i items) (get_or items i 0), names-whole l w, e w)
            (sym (or-false (one_of (class ∷ w) (held (name_slots file) set) || bears s w (item_in file (get_or items i 0)).what)))

  -- an item of another sort
  pub members-other : i ≤ rest → {b : Bool} → b ≡ of_sort s (item_in file (get_or items i 0)).what → b ≡ false → MembersPut s file class items (i + 1) set set (i + 1)
  unfolding bears
  members-other l e f = record {
    members = members-whole l m.reachable (λ w. rw (← e, f) (sym (or-false (one_of (class ∷ w) (held (name_slots file) set)))));
    others = λ d z. same_start (name_slots file) d set;
  }

  -- the items from `rest` on are left
  pub members-stay : MembersPut s file class items (i + 1) set set rest
  members-stay = record { members = members-left; others = λ d z. same_start (name_slots file) d set }

  -- an item of the sort
  module _ {n : Bytes} {after : List ℕ} {r : Result Bool Full} {full : Bool} (p : PutIn (name_slots file) (class ∷ n) set after r) (e : full ≡ is_err r) (l : i ≤ rest) where
    -- there was no room
    pub members-full : full ≡ true → MembersPut s file class items (i + 1) set after i
    members-full f = rw (p.full (sym e ∙ f)) (record { members = left-from i (omega (arith, m.inside)); others = λ d z. same_start (name_slots file) d set })

    -- its name was put
    pub members-put : full ≡ false → NamesStand file items → {place : ℕ} → n ≡ name_at file place → place ≡ (item_in file (get_or items i 0)).named → of_sort s (item_in file (get_or items i 0)).what ≡ true
        → MembersPut s file class items (i + 1) set after (i + 1)
    unfolding bears
    members-put f t a q o = record { members = members-whole l p.reachable names; others = λ d z. put_other p d z }
      where
        swap : (a b : Bool) → a || b ≡ b || a
        swap true true = refl
        swap true false = refl
        swap false true = refl
        swap false false = refl

        names : (w : Bytes) → one_of (class ∷ w) (held (name_slots file) after) ≡ one_of (class ∷ w) (held (name_slots file) set) || bears s w (item_in file (get_or items i 0)).what
        names w =
            put-own p (sym e ∙ f) w
            ∙ rw (a, o, q, (t.named (get_or items i 0) (at_in items i h) s o).1)
            (swap (same w (item_in file (get_or items i 0)).what.name) (one_of (class ∷ w) (held (name_slots file) set)))

-- 3. Starts

-- nothing is in the set: all of the items are gone through
pub members-none : {s : Sought} {file : List ℕ} {class : ℕ} {items : List ℕ} {set : List ℕ} (i : ℕ) → Without (name_slots file) class set → i ≤ length items
    → Members s file class items i set 0
members-none i o h = record { reachable = o.reachable; inside = (omega arith, h); names = λ w. rw (o.none w) }

-- no item was passed
pub members-start : {s : Sought} {file : List ℕ} {class : ℕ} {items : List ℕ} {set : List ℕ} → Without (name_slots file) class set → Members s file class items 0 set 0
members-start o = members-none 0 o (omega arith)

-- 4. All items

-- before the first item
pub put-start : {s : Sought} {file : List ℕ} {class : ℕ} {items : List ℕ} {set : List ℕ} → Without (name_slots file) class set → MembersPut s file class items 0 set set 0
put-start {file = file} {set = set} o = record { members = members-start o; others = λ d z. same_start (name_slots file) d set }

-- some items, then some more
pub put_on : {s : Sought} {file : List ℕ} {class : ℕ} {items : List ℕ} {i j : ℕ} {start before after : List ℕ} {rest left : ℕ}
    → MembersPut s file class items i start before rest → MembersPut s file class items j before after left → MembersPut s file class items j start after left
put_on p q = record { members = q.members; others = λ d z. same_next (p.others d z) (q.others d z) }

-- the last item was passed
pub put-end : {s : Sought} {file : List ℕ} {class : ℕ} {items : List ℕ} {i : ℕ} {before after : List ℕ} {rest : ℕ}
    → MembersPut s file class items i before after rest → length items ≤ i → MembersPut s file class items (length items) before after rest
put-end {s} {file} {class} {items} {i} {before} {after} {rest} p h = subst (λ (n : ℕ). MembersPut s file class items n before after rest) (omega (arith, p.members.inside)) p

-- 5. Other classes

-- the set was changed in other classes only
pub members-same : {s : Sought} {file : List ℕ} {class : ℕ} {items : List ℕ} {i : ℕ} {before after : List ℕ} {rest : ℕ}
    → Members s file class items i before rest → Same (name_slots file) class before after → Reachable (name_slots file) after → Members s file class items i after rest
members-same m e a = record { reachable = a; inside = m.inside; names = λ w. m.names w ∙ rw (e.words w) }

-- another class has no name as before
pub without-members : {s : Sought} {file : List ℕ} {class d : ℕ} {items : List ℕ} {i : ℕ} {before after : List ℕ} {rest : ℕ}
    → MembersPut s file class items i before after rest → (d ≡ class → ⊥) → Without (name_slots file) d before → Without (name_slots file) d after
without-members {d = d} p z o = record { reachable = p.members.reachable; none = λ w. (p.others d z).words w ∙ o.none w }

-- 6. Asking for a name

module _ {s : Sought} {file : List ℕ} {class : ℕ} {items : List ℕ} {i : ℕ} {set : List ℕ} {rest : ℕ} (m : Members s file class items i set rest)
    (w : Bytes) {b : Bool} (e : b ≡ one_of (class ∷ w) (held (name_slots file) set)) where
  -- the set has it
  pub member-found : b ≡ true → b ≡ found_in s file (take i items) w
  member-found f = f ∙ rw (m.names w, ← e, f)

  -- the items that were left decide
  pub member-left : {r : Bool} → b ≡ false → r ≡ found_in s file (take (i - rest) (drop rest items)) w → r ≡ found_in s file (take i items) w
  member-left f q = rw (m.names w, ← e, f) (q ∙ rw (drop-take rest i items))

-- A look along the items of a body: one item after the other, each gather put into the body's set after its look. Assumes nothing.
use mathlib.Core.Path.{◌≡◌, refl, sym, ◌∙◌, subst}
use mathlib.Core.Bool.{Bool, true, false}
use mathlib.Core.List.{List, [], ◌∷◌}
use Prim.Native.Nat.{ℕ, zero, suc, ◌+◌, ◌≤◌, ◌<◌}
use native.Mathlib.Omega.{arith}
use native.Mathlib.Numerals.{add-one}
use lib.ListN.{length, length-map, get_or, take, drop}
use Rattle.story.specs.declared.Sections.{Sections}
use Rattle.names.specs.Counted.{name_at}
use Rattle.records.specs.Items.{What}
use Rattle.records.specs.Numbers.{item_in}
use Rattle.story.specs.Story.{whats}
use Rattle.items.specs.declared.named.Sought.TheVariants as sought
use Rattle.items.specs.Bodies.{items_at, Kept}
use Rattle.items.specs.Standing.{NamesStand}
use Rattle.items.proofs.Standing.{kept-names-stand, stand-part}
use Rattle.sets.specs.Members.{Members, MembersPut}
use Rattle.sets.proofs.Passing.{members-same}
use Rattle.rules.specs.declared.Rule.{Rule}
use Rattle.rules.specs.Rules.{Known, Here}
use Rattle.broken.specs.declared.At.{At}
use Rattle.broken.specs.declared.Site.{Site}
use Rattle.broken.specs.declared.Thing.{Thing}
use Rattle.broken.specs.Scopes.{known_in, here_in, body_run, Ready}
use Rattle.steps.specs.Clear.{clear_of, clear_along}
use Rattle.broken.specs.Things.{ThingIs}
use Rattle.steps.specs.Looks.{ClearAt}
use Rattle.steps.specs.Visits.{LikeThing, thing_of, at_item}
use Rattle.steps.proofs.Clear.{Unbroken, unbroken-start, unbroken-next, unbroken-broken, unbroken-end}
use Rattle.steps.proofs.Visited.{renamed, broken-like}
use Rattle.steps.proofs.Bearing.{run-bears, like-thing}

-- 1. Items by their numbers

-- the item at a number, and those after it
drop-item : (file xs : List ℕ) (i : ℕ) → i < length xs → drop i (items_at file xs) ≡ item_in file (get_or xs i 0) ∷ drop (i + 1) (items_at file xs)
drop-item file xs i h = rw (add-one i) (from-there xs i h)
  where
    from-there : (ys : List ℕ) (j : ℕ) → j < length ys → drop j (items_at file ys) ≡ item_in file (get_or ys j 0) ∷ drop (suc j) (items_at file ys)
    from-there [] j l = absurd (omega arith)
    from-there (y ∷ ys) zero l = refl
    from-there (y ∷ ys) (suc j) l = from-there ys j (omega arith)

clear-like : (k : Known) (h : Here) (before : List What) {file : List ℕ} {t : Thing} {w : What} → LikeThing file t w → (rs : List Rule)
    → clear_of k h rs before w ≡ clear_of k h rs before (renamed (name_at file t.name) w)
unfolding clear_of
clear-like k h before l [] = refl
clear-like k h before l (r ∷ rs) = rw (broken-like k h before l r, clear-like k h before l rs)

-- what is answered of a thing for the rules of a list is answered of what the thing is like
like-clear : (k : Known) (h : Here) (before : List What) {file : List ℕ} {t : Thing} {w : What} → LikeThing file t w → (rs : List Rule) {b : Bool}
    → ((v : What) → ThingIs file t v → b ≡ clear_of k h rs before v) → b ≡ clear_of k h rs before w
like-clear k h before {file} {t} {w} l rs e =
    e (renamed (name_at file t.name) w) (record { sort = l.sort; named = refl; branch = l.branch; leaves = l.leaves }) ∙ sym (clear-like k h before l rs)

-- 2. While the look lasts

-- before item number i nothing is broken, and the gathers are in the set but for those from number `rest` on
pub record Looked (sections : Sections) (file kept : List ℕ) (s : Site) (rs : List Rule) (body : List ℕ) (rest i : ℕ) : Type 0 where
  pub temps : Members sought.Temp file 1 (body_run kept s.scope) (length (body_run kept s.scope)) body s.rests.own
  pub gathers : Members sought.Gather file 2 (body_run kept s.scope) i body rest
  pub unbroken : Unbroken (known_in sections file) (here_in file kept s.scope) rs (items_at file (body_run kept s.scope)) i

module _ {sections : Sections} {file kept knot start : List ℕ} {s : Site} (read : Kept file sections kept) (ready : Ready file kept knot start s 0) where
  -- the names of the body's items stand
  pub look-names : NamesStand file (body_run kept s.scope)
  look-names = stand-part (kept-names-stand read) s.scope.first s.scope.last

  -- before the first item
  pub look-start : (rs : List Rule) → Looked sections file kept s rs start 0 0
  look-start rs = record {
    temps = ready.body_set.temps;
    gathers = subst (λ (n : ℕ). Members sought.Gather file 2 (body_run kept s.scope) 0 start n) (omega (arith, ready.body_set.gathers.inside)) ready.body_set.gathers;
    unbroken = unbroken-start (known_in sections file) (here_in file kept s.scope) rs (items_at file (body_run kept s.scope));
  }

  module _ {rs : List Rule} {body : List ℕ} {gathers i : ℕ} (looked : Looked sections file kept s rs body gathers i) where
    -- no item is left
    pub look-end : length (body_run kept s.scope) ≤ i → true ≡ clear_along (known_in sections file) (here_in file kept s.scope) rs [] (items_at file (body_run kept s.scope))
    look-end h = unbroken-end looked.unbroken (omega (arith, length-map (body_run kept s.scope) (item_in file)))

    module _ {thing : Thing} {here : At} (e : here ≡ at_item s gathers thing i) where
      -- all is ready at the item
      pub look-ready : Ready file kept knot body here.site here.number
      look-ready = rw e (record {
        scope_ready = ready.scope_ready;
        knot_set = record { labels = ready.knot_set.labels; temps = ready.knot_set.temps };
        body_set = record { temps = looked.temps; gathers = looked.gathers };
      })

      module _ (h : i < length (body_run kept s.scope)) (t : thing ≡ thing_of (get_or (body_run kept s.scope) i 0)) {b : Bool} (c : ClearAt sections file kept here rs b) where
        -- what was answered at the item
        look-item : b ≡ clear_of (known_in sections file) (here_in file kept s.scope) rs (take i (whats (items_at file (body_run kept s.scope)))) (item_in file (get_or (body_run kept s.scope) i 0)).what
        look-item =
            let x = get_or (body_run kept s.scope) i 0 in
            let d : ClearAt sections file kept (at_item s gathers thing i) rs b = rw e at c in
            let bears = run-bears read s.scope.first s.scope.last h in
            like-clear (known_in sections file) (here_in file kept s.scope) (take i (whats (items_at file (body_run kept s.scope)))) (rw t (like-thing file x bears)) rs d.says

        -- some rule is broken there
        pub look-broken : b ≡ false → false ≡ clear_along (known_in sections file) (here_in file kept s.scope) rs [] (items_at file (body_run kept s.scope))
        look-broken f = unbroken-broken looked.unbroken (drop-item file (body_run kept s.scope) i h) look-item f

        -- none is: on to the next
        pub look-next : {after : List ℕ} {rest : ℕ} → b ≡ true → MembersPut sought.Gather file 2 (body_run kept s.scope) (i + 1) body after rest → Looked sections file kept s rs after rest (i + 1)
        look-next f p = record {
          temps = members-same looked.temps (p.others 1 (λ z. omega arith)) p.members.reachable;
          gathers = p.members;
          unbroken = unbroken-next looked.unbroken (drop-item file (body_run kept s.scope) i h) look-item f;
        }

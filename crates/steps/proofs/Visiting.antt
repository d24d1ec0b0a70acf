-- What is heard at one item of a run, rule after rule, and along its items. Assumes nothing.
use mathlib.Core.Path.{◌≡◌, refl, sym, ap, ◌∙◌}
use mathlib.Core.Bool.{Bool, true, false}
use mathlib.Core.List.{List, [], ◌∷◌, ◌++◌, nil≢cons}
use Prim.Native.Nat.{ℕ, zero, suc, ◌+◌, ◌≤◌}
use native.Mathlib.Numerals.{add-one}
use lib.ListN.{length, take, drop, drop_of_length-le}
use Rattle.fields.specs.Bytes.{pick}
use Rattle.names.specs.Words.{only, each}
use Rattle.records.specs.Items.{What, Item}
use Rattle.story.specs.Story.{Story, whats}
use Rattle.rules.specs.declared.Rule.{Rule}
use Rattle.rules.specs.Steps.{bracket, Run, Numbered, Breach, breach, Visit, visits, breaks, in_visit, names_of, flow_named}
use Rattle.steps.specs.Heard.{breach_of, Heard, full, hear, hear_all, hear_rule, hear_rules}
use Rattle.steps.proofs.Hearing.{hear-append, hear-full, all-instance}

-- 1. Rules one after the other

pub hear-only : (h : Heard) (t : Bool) (b : Breach) → hear_all h (only t b) ≡ pick t (hear h b) h
unfolding hear_all
hear-only h true b = refl
hear-only h false b = refl

module _ (s : Story) (u : Numbered Run) (v : Visit) where
  hear-rules : (h : Heard) (rs : List Rule) → hear_all h (each (λ (r : Rule). only (breaks s u.it v r) (breach u v r)) rs) ≡ hear_rules s u v h rs
  unfolding hear_all hear_rule hear_rules
  hear-rules h [] = refl
  hear-rules h (r ∷ rs) =
      hear-append h (only (breaks s u.it v r) (breach u v r)) (each (λ (q : Rule). only (breaks s u.it v q) (breach u v q)) rs)
      ∙ rw (hear-only h (breaks s u.it v r) (breach u v r)) (hear-rules (pick (breaks s u.it v r) (hear h (breach u v r)) h) rs)

  -- the breach as it is heard, by the numbers at hand
  pub breach-of : (r : Rule) {instance place flow own : ℕ} → instance ≡ u.no → place ≡ v.item.place → flow ≡ flow_named u.it.scope → own ≡ v.item.named
      → breach_of instance r place (names_of r flow own) ≡ breach u v r
  breach-of r a b c d = rw (a, b, c, d)

  -- a visit is the rules of its step, one after the other
  pub hear-visit : (h : Heard) → hear_all h (in_visit s u v) ≡ hear_rules s u v h (bracket u.it.step)
  hear-visit h = hear-rules h (bracket u.it.step)

  -- one rule, by its test
  module _ (r : Rule) {t : Bool} (e : t ≡ breaks s u.it v r) (h : Heard) where
    pub rule-broken : t ≡ true → hear h (breach u v r) ≡ hear_rule s u v h r
    unfolding hear_rule
    rule-broken f = rw (← e, f)

    pub rule-kept : t ≡ false → h ≡ hear_rule s u v h r
    unfolding hear_rule
    rule-kept f = rw (← e, f)

  -- the number of the run stays
  pub rule-instance : (r : Rule) (h : Heard) → (hear_rule s u v h r).tally.instance ≡ h.tally.instance
  unfolding hear_rule
  rule-instance r h = ap (λ (g : Heard). g.tally.instance) (sym (hear-only h (breaks s u.it v r) (breach u v r))) ∙ all-instance h (only (breaks s u.it v r) (breach u v r))

  -- steps of one, two and three rules
  pub visit-one : (h : Heard) {g : Heard} {a : Rule} → bracket u.it.step ≡ a ∷ [] → g ≡ hear_rule s u v h a → g ≡ hear_all h (in_visit s u v)
  unfolding hear_rules
  visit-one h {g} e p = rw (hear-visit h, e) p

  pub visit-two : (h : Heard) {f g : Heard} {a b : Rule} → bracket u.it.step ≡ a ∷ b ∷ [] → f ≡ hear_rule s u v h a → g ≡ hear_rule s u v f b
      → g ≡ hear_all h (in_visit s u v)
  unfolding hear_rules
  visit-two h e p q = rw (hear-visit h, e, ← p) q

  pub visit-three : (h : Heard) {f g k : Heard} {a b c : Rule} → bracket u.it.step ≡ a ∷ b ∷ c ∷ [] → f ≡ hear_rule s u v h a → g ≡ hear_rule s u v f b
      → k ≡ hear_rule s u v g c → k ≡ hear_all h (in_visit s u v)
  unfolding hear_rules
  visit-three h e p q r = rw (hear-visit h, e, ← p, ← q) r

-- 2. Items one after the other

-- what stands before the item after this one
pub taken : (items : List Item) (i : ℕ) {x : Item} {ys : List Item} → drop i items ≡ x ∷ ys → take (suc i) (whats items) ≡ take i (whats items) ++ (x.what ∷ [])
taken [] zero e = absurd (nil≢cons e)
taken [] (suc i) e = absurd (nil≢cons e)
taken (y ∷ items) zero e = cc
taken (y ∷ items) (suc i) e = ap (λ (l : List What). y.what ∷ l) (taken items i e)

-- what is to be heard along all items from `start` on is what is to be heard from item number i on
pub record Along (s : Story) (u : Numbered Run) (items : List Item) (start h : Heard) (i : ℕ) : Type 0 where
  pub instance : h.tally.instance ≡ start.tally.instance
  pub rest : hear_all start (each (in_visit s u) (visits [] items)) ≡ hear_all h (each (in_visit s u) (visits (take i (whats items)) (drop i items)))

pub along-start : (s : Story) (u : Numbered Run) (items : List Item) (h : Heard) → Along s u items h h 0
along-start s u items h = record { instance = refl; rest = refl }

module _ {s : Story} {u : Numbered Run} {items : List Item} {start h : Heard} {i : ℕ} (along : Along s u items start h i) where
  -- no item is left, or no more is heard
  pub along-end : length items ≤ i → h ≡ hear_all start (each (in_visit s u) (visits [] items))
  unfolding hear_all
  along-end l = sym (along.rest ∙ rw (drop_of_length-le items l))

  pub along-full : full h ≡ true → h ≡ hear_all start (each (in_visit s u) (visits [] items))
  along-full e = sym (along.rest ∙ hear-full h e (each (in_visit s u) (visits (take i (whats items)) (drop i items))))

  -- one item
  module _ {x : Item} (there : drop i items ≡ x ∷ drop (i + 1) items) where
    pub along-next : {g : Heard} → g ≡ hear_all h (in_visit s u (record { item = x; before = take i (whats items) })) → Along s u items start g (i + 1)
    along-next e =
        let v : Visit = record { item = x; before = take i (whats items) } in
        let later = each (in_visit s u) (visits (take i (whats items) ++ (x.what ∷ [])) (drop (suc i) items)) in
        record {
          instance = ap (λ (f : Heard). f.tally.instance) e ∙ all-instance h (in_visit s u v) ∙ along.instance;
          rest = along.rest ∙ rw (there, add-one i, taken items i there) (hear-append h (in_visit s u v) later ∙ rw (← e));
        }

    -- one that breaks nothing
    pub along-clear : in_visit s u (record { item = x; before = take i (whats items) }) ≡ [] → Along s u items start h (i + 1)
    unfolding hear_all
    along-clear e = along-next (rw e)

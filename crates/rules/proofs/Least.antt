-- Demand 3's claim on the verdict: accepted exactly when no breach stands, else the first breach that stands: `least`.
-- What stands is listed, and listed one time: `listed`, `once`. Assumes nothing.
use mathlib.Core.Path.{◌≡◌, refl, sym, ◌∙◌, ap, subst, subst₂}
use mathlib.Core.List.Memᴰ
use mathlib.Core.List.{List, [], ◌∷◌, ◌++◌, Memᴰ, append_assoc, append-nil}
use mathlib.Core.Logic.{◌⊎◌, inl, inr, ⊎_elim, ◌↔◌}
use mathlib.Core.Option.{none, some, none-ne-some, some-ne-none, some-injective}
use Prim.Native.Nat.{◌<◌}
use native.Mathlib.Omega.{arith}
use Rattle.names.specs.Words.{only, ◌∈◌, Sorted}
use Rattle.records.specs.Items.{What, Item}
use Rattle.story.specs.Story.{Story, whats}
use Rattle.rules.specs.declared.Rule.{Rule}
use Rattle.rules.specs.Rules.{number}
use Rattle.rules.specs.Steps.{Visit, visits, bracket, names_of, flow_named, Run, Numbered, numbered, Breach, breach, breaks, in_visit, in_run, runs, breaches, first, verdict, Later}
use Rattle.rules.specs.Meaning.{Broken, NamesAre, Stands}
use Rattle.rules.specs.Placed.{Rising}
use Rattle.rules.proofs.Means.{broken-means}
use Rattle.rules.proofs.Names.{names-are, names-only}
use Rattle.rules.proofs.Table.{rules-of-step, rule-in-step, brackets}
use Rattle.rules.proofs.Numbered.{sorted-numbered}
use Rattle.rules.proofs.Ran.{the-steps}
use Rattle.rules.proofs.Placed.{Ordered}
use Rattle.names.proofs.Lists.{in-only, of-only, in-each, of-each, sorted-each, sorted-only}

-- what is visited, and what stands before it
visit-split : (before : List What) (l : List Item) (v : Visit) → v ∈ (visits before l)
    → (earlier : List Item) × (after : List Item) × (l ≡ earlier ++ (v.item ∷ after)) × (v.before ≡ before ++ whats earlier)
visit-split before [] v m = absurd (Memᴰ.not-nil m)
visit-split before (i ∷ is) v m =
    ⊎_elim
    (λ e. ([], is, ap (λ (x : Visit). x.item ∷ is) (sym e), ap (λ (x : Visit). x.before) e ∙ sym (append-nil before)))
    (λ n. let r = visit-split (before ++ (i.what ∷ [])) is v n in
    (i ∷ r.0, r.1, ap (λ (l : List Item). i ∷ l) r.2, r.3 ∙ append_assoc before (i.what ∷ []) (whats r.0)))
    (Memᴰ.cases_cons m)

visit-join : (before : List What) (earlier : List Item) (i : Item) (after : List Item)
    → Memᴰ (record { item = i; before = before ++ whats earlier }) (visits before (earlier ++ (i ∷ after)))
visit-join before [] i after = Memᴰ.head (ap (λ (b : List What). record { item = i; before = b }) (append-nil before))
visit-join before (j ∷ js) i after =
    Memᴰ.tail (Memᴰ.cast (ap (λ (b : List What). record { item = i; before = b }) (sym (append_assoc before (j.what ∷ []) (whats js))))
    (visit-join (before ++ (j.what ∷ [])) js i after))

-- a breach is known by its step, rule, place and names
made_of : (u : Numbered Run) (v : Visit) (r : Rule) (b : Breach) → b.instance ≡ u.no → b.rule ≡ r → b.place ≡ v.item.place
    → b.names ≡ names_of r (flow_named u.it.scope) v.item.named → b ≡ breach u v r
made_of u v r b e f g h = λ i. record { instance = e i; rule = f i; place = g i; names = h i }

-- what is listed stands, and what stands is listed
pub listed : (s : Story) (b : Breach) → Stands s b → b ∈ breaches s
unfolding breaches
listed s b h =
    let u : Numbered Run = record { no = h.instance; it = h.step } in
    let v : Visit = record { item = h.item; before = whats h.earlier } in
    Memᴰ.cast
    (made_of u v h.rule b h.the_instance h.the_rule h.the_place (names-only h.rule _ _ _ h.the_names))
    (in-each (in_run s) ((the-steps s h.instance h.step).1 h.runs_it)
    (in-each (in_visit s u) (subst (λ (l : List Item). v ∈ visits [] l) (sym h.visits_it) (visit-join [] h.earlier h.item h.after))
    (in-each (λ (r : Rule). only (breaks s u.it v r) (breach u v r)) (rule-in-step u.it.step h.rule h.of_step)
    (in-only (breaks s u.it v h.rule)
    ((broken-means s u.it.scope (whats h.earlier) h.rule h.item.what).from h.is_broken)))))

pub stands : (s : Story) (b : Breach) → b ∈ breaches s → Stands s b
unfolding breaches
stands s b m =
    let u = of-each (in_run s) (numbered 0 (runs s)) m in
    let v = of-each (in_visit s u.0) (visits [] u.0.it.items) u.2 in
    let r = of-each (λ (r : Rule). only (breaks s u.0.it v.0 r) (breach u.0 v.0 r)) (bracket u.0.it.step) v.2 in
    let o = of-only (breaks s u.0.it v.0 r.0) r.2 in
    let w = visit-split [] u.0.it.items v.0 v.1 in
    record {
      instance = u.0.no;
      step = u.0.it;
      runs_it = (the-steps s u.0.no u.0.it).0 u.1;
      earlier = w.0;
      item = v.0.item;
      after = w.1;
      visits_it = w.2;
      rule = r.0;
      of_step = rules-of-step u.0.it.step r.0 r.1;
      is_broken = subst (λ (b : List What). Broken s u.0.it.scope b r.0 v.0.item.what) w.3
          ((broken-means s u.0.it.scope v.0.before r.0 v.0.item.what).to o.0);
      the_instance = ap (λ (x : Breach). x.instance) o.1;
      the_rule = ap (λ (x : Breach). x.rule) o.1;
      the_place = ap (λ (x : Breach). x.place) o.1;
      the_names = subst (NamesAre (number r.0) _ _) (sym (ap (λ (x : Breach). x.names) o.1)) (names-are r.0 _ _);
    }

-- the list is in order
in-visit : (s : Story) (u : Numbered Run) (v : Visit) → Sorted Later (in_visit s u v)
in-visit s u v =
    sorted-each (λ (q r : Rule). number q < number r) Later _ (bracket u.it.step) (brackets u.it.step)
    (λ r m. sorted-only Later (breaks s u.it v r) (breach u v r))
    (λ r t b c h i j.
    let x = of-only (breaks s u.it v r) i in
    let y = of-only (breaks s u.it v t) j in
    subst₂ Later (sym x.1) (sym y.1) (inr (inr (refl, refl, h))))

-- what a visit gives is a breach there
made : (s : Story) (u : Numbered Run) (v : Visit) (b : Breach) → b ∈ (in_visit s u v) → (r : Rule) × (b ≡ breach u v r)
made s u v b m =
    let r = of-each (λ (r : Rule). only (breaks s u.it v r) (breach u v r)) (bracket u.it.step) m in
    (r.0, (of-only (breaks s u.it v r.0) r.2).1)

Below : Visit → Visit → Type 0
Below v w = v.item.place < w.item.place

-- the visits of rising items rise
visited-in : (before : List What) (l : List Item) (v : Visit) → v ∈ (visits before l) → Memᴰ v.item l
visited-in before [] v m = absurd (Memᴰ.not-nil m)
visited-in before (i ∷ is) v m =
    ⊎_elim (λ e. Memᴰ.head (ap (λ (x : Visit). x.item) e)) (λ n. Memᴰ.tail (visited-in (before ++ (i.what ∷ [])) is v n))
    (Memᴰ.cases_cons m)

visits-rise : (before : List What) (l : List Item) → Rising l → Sorted Below (visits before l)
unfolding Below
visits-rise before [] q = tt
visits-rise before (i ∷ is) q = (
  λ v m. q.0 v.item (visited-in (before ++ (i.what ∷ [])) is v m),
  visits-rise (before ++ (i.what ∷ [])) is q.1,
)

in-run : (s : Story) (u : Numbered Run) → Rising u.it.items → Sorted Later (in_run s u)
unfolding Below
in-run s u q =
    sorted-each Below Later (in_visit s u) (visits [] u.it.items) (visits-rise [] u.it.items q)
    (λ v m. in-visit s u v)
    (λ v w b c h i j.
    let x = made s u v b i in
    let y = made s u w c j in
    subst₂ Later (sym x.1) (sym y.1) (inr (inl (refl, h))))

numbers : (s : Story) (u : Numbered Run) (b : Breach) → b ∈ (in_run s u) → b.instance ≡ u.no
numbers s u b m =
    let v = of-each (in_visit s u) (visits [] u.it.items) m in
    ap (λ (x : Breach). x.instance) (made s u v.0 b v.2).1

pub in_order : (s : Story) → Ordered s → Sorted Later (breaches s)
unfolding breaches
in_order s o =
    sorted-each (λ (a b : Numbered Run). a.no < b.no) Later (in_run s) (numbered 0 (runs s)) (sorted-numbered 0 (runs s))
    (λ u m. in-run s u (o u.no u.it ((the-steps s u.no u.it).0 m)))
    (λ u w b c h i j. inl (omega (arith, numbers s u b i, numbers s w c j)))

-- the first of a list
none_first : {A : Type 0} (l : List A) → first l ≡ none → (b : A) → b ∈ l → ⊥
none_first [] e b m = Memᴰ.not-nil m
none_first (x ∷ xs) e b m = some-ne-none x e

first-none : {A : Type 0} (l : List A) → ((b : A) → b ∈ l → ⊥) → first l ≡ none
first-none [] h = refl
first-none (x ∷ xs) h = absurd (h x (Memᴰ.head refl))

first-in : {A : Type 0} (l : List A) (b : A) → first l ≡ some b → b ∈ l
first-in [] b e = absurd (none-ne-some b e)
first-in (x ∷ xs) b e = Memᴰ.head (sym (some-injective x b e))

first-least : {A : Type 0} (R : A → A → Type 0) (l : List A) → Sorted R l → (b c : A) → first l ≡ some b → c ∈ l → (c ≡ b) ⊎ R b c
first-least R [] q b c e m = absurd (Memᴰ.not-nil m)
first-least R (x ∷ xs) q b c e m =
    let p : x ≡ b = some-injective x b e in
    ⊎_elim (λ i. inl (i ∙ p)) (λ i. inr (subst (λ z. R z c) p (q.0 c i))) (Memᴰ.cases_cons m)

-- DEMAND 3, the verdict
pub record Least (s : Story) : Type 0 where
  pub accepted : (verdict s ≡ none) ↔ ((b : Breach) → Stands s b → ⊥)
  pub found : (b : Breach) → verdict s ≡ some b → Stands s b
  pub least : (b c : Breach) → verdict s ≡ some b → Stands s c → (c ≡ b) ⊎ Later b c

pub least : (s : Story) → Ordered s → Least s
unfolding verdict
least s o = record {
  accepted = (λ e b h. none_first (breaches s) e b (listed s b h), λ h. first-none (breaches s) (λ b m. h b (stands s b m)));
  found = λ b e. stands s b (first-in (breaches s) b e);
  least = λ b c e h. first-least Later (breaches s) (in_order s o) b c e (listed s c h);
}

-- each breach is listed once
not-later : (b : Breach) → Later b b → ⊥
not-later b (inl h) = omega arith
not-later b (inr (inl h)) = omega arith
not-later b (inr (inr h)) = omega arith

pub once : (s : Story) → Ordered s → Sorted (λ (b c : Breach). b ≡ c → ⊥) (breaches s)
once s o = go (breaches s) (in_order s o)
  where
    go : (l : List Breach) → Sorted Later l → Sorted (λ (b c : Breach). b ≡ c → ⊥) l
    go [] q = tt
    go (x ∷ xs) q = (λ y m e. not-later y (subst (λ z. Later z y) e (q.0 y m)), go xs q.1)

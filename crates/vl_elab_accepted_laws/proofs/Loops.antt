-- The full names of a loop's turns differ.
use Rattle.std.specs.Prelude.{◌≡◌, refl, ℕ, zero, suc, ◌+◌, ◌<◌, ◌≤◌, ◌^◌, List, []}
use Rattle.std.specs.Prelude.{◌∷◌, ◌++◌, Bool, true, false}
use Rattle.std.specs.Prelude.{if◌then◌else◌}
use Rattle.std.proofs.Common.{sym, ◌∙◌, subst, arith}
use Rattle.std.proofs.lemmas.List.{append_cancel_left}
use Rattle.fv_text.specs.declared.pos.Pos.{Pos}
use Rattle.vl_tree.specs.declared.part.LoopHead.{LoopHead}
use Rattle.vl_tree.specs.declared.source.Module.{Module}
use Rattle.vl_tree.specs.Attributes.{Attributes}
use Rattle.vl_tree.specs.Expr.{Expr}
use Rattle.vl_tree.specs.Item.{Block, for_loop, if_only, if_else}
use Rattle.vl_mean.specs.declared.const_number.Const.{Const}
use Rattle.vl_mean.specs.FlatLaw.{nodes}
use Rattle.vl_mean.specs.Runs.{Each}
use Rattle.vl_mean.specs.Walk.{Place, Step, item, turns, turn_path}
use Rattle.vl_mean_flat.proofs.EachOf.{front, back}
use Rattle.vl_elab_spec.specs.Counts.{loop_nodes, step_nodes}
use Rattle.vl_elab_accepted_laws.specs.SoundSteps.{HasSoundNames}
use Rattle.vl_elab_accepted_laws.proofs.Contained.{clash}
use Rattle.vl_elab_accepted_laws.proofs.Declared.{full_names}
use Rattle.vl_elab_accepted_laws.proofs.Fresh.{IsFine}
use Rattle.vl_elab_accepted_laws.proofs.Good.{Good, good-none, good-map, good-both, Under, Any, inside-turn}
use Rattle.vl_elab_accepted_laws.proofs.Genblk.{is_mark}
use Rattle.vl_elab_accepted_laws.proofs.Plain.{Plain}
use Rattle.vl_elab_accepted_laws.proofs.Texts.{until-mark}
use Rattle.vl_elab_accepted_laws.proofs.Turns.{EndsIn, ends-once, IsTurn, index, same_turn}

abbrev pub AreFine : List Module → List Step → Type 0
AreFine ms xs = Each (IsFine ms) xs

-- nor is a name in its place one whose own declaration is refused
abbrev pub IsClear : List Module → Step → Type 0
IsClear ms x = IsFine ms x × HasSoundNames x

abbrev pub AreClear : List Module → List Step → Type 0
AreClear ms xs = Each (IsClear ms) xs

pub both-clear : (ms : List Module) (xs : List Step) → AreFine ms xs → Each HasSoundNames xs → AreClear ms xs
both-clear ms [] h k = tt
both-clear ms (x ∷ xs) h k = ((h.0, k.0), both-clear ms xs h.1 k.1)

-- how many nodes steps have
pub weight : List Step → ℕ
weight [] = 0
weight (x ∷ xs) = step_nodes x + weight xs

pub weight-none : weight [] ≡ 0
unfolding weight
weight-none = refl

pub weight-next : (x : Step) (xs : List Step) → weight (x ∷ xs) ≡ step_nodes x + weight xs
unfolding weight
weight-next x xs = refl

behind-first : (a b c d e : ℕ) → d ≡ a + e → e ≡ b + c → d ≡ a + b + c
behind-first a b c d e h k = omega (arith, h, k)

weight-append : (xs ys : List Step) → weight (xs ++ ys) ≡ weight xs + weight ys
weight-append [] ys = omega (arith, weight-none)
weight-append (x ∷ xs) ys =
    behind-first (step_nodes x) (weight xs) (weight ys) (weight (x ∷ xs ++ ys)) (weight (xs ++ ys))
    (weight-next x (xs ++ ys)) (weight-append xs ys)
    ∙ (λ i. sym (weight-next x xs) i + weight ys)

-- so few nodes that numbers of constructs are printed whole
abbrev pub AreFew : ℕ → List Step → Type 0
AreFew n xs = n + weight xs < 2 ^ 64

pub few-front : (n : ℕ) (xs ys : List Step) → AreFew n (xs ++ ys) → AreFew n xs
few-front n xs ys h = let e : weight (xs ++ ys) ≡ weight xs + weight ys = weight-append xs ys in omega (arith, e, h)

pub few-back : (n : ℕ) (xs ys : List Step) → AreFew n (xs ++ ys) → AreFew n ys
few-back n xs ys h = let e : weight (xs ++ ys) ≡ weight xs + weight ys = weight-append xs ys in omega (arith, e, h)

pub few-start : (n : ℕ) (xs : List Step) → AreFew n xs → n < 2 ^ 64
few-start n xs h = omega arith

less-behind : (n a b c : ℕ) → c ≡ a + b → n + c < 2 ^ 64 → n + b < 2 ^ 64
less-behind n a b c e h = omega (arith, e, h)

less-one : (n a b c : ℕ) → 0 < n → c ≡ a + b → n + c < 2 ^ 64 → 1 + b < 2 ^ 64
less-one n a b c z e h = omega (arith, z, e, h)

-- behind a step
pub few-tail : (n : ℕ) (x : Step) (xs : List Step) → AreFew n (x ∷ xs) → AreFew n xs
few-tail n x xs h = less-behind n (step_nodes x) (weight xs) (weight (x ∷ xs)) (weight-next x xs) h

pub few-one : (n : ℕ) (xs : List Step) → 0 < n → AreFew n xs → AreFew 1 xs
few-one n xs z h = omega arith

pub few-next : (n : ℕ) (x : Step) (xs : List Step) → 0 < n → AreFew n (x ∷ xs) → AreFew 1 xs
few-next n x xs z h = less-one n (step_nodes x) (weight xs) (weight (x ∷ xs)) z (weight-next x xs) h

pub few-rest : (n c : ℕ) (xs ys : List Step) → c ≤ weight xs → AreFew n (xs ++ ys) → AreFew (n + c) ys
few-rest n c xs ys k h = let e : weight (xs ++ ys) ≡ weight xs + weight ys = weight-append xs ys in omega (arith, e, k, h)

pub none-or-more : (xs : List Step) → 0 ≤ weight xs
none-or-more xs = omega arith

at-least : (a b c : ℕ) → c ≡ a + b → 1 ≤ a → 1 ≤ c
at-least a b c e h = omega (arith, e, h)

-- a step that has a node, and others behind it
pub one-or-more : (x : Step) (xs : List Step) → 1 ≤ step_nodes x → 1 ≤ weight (x ∷ xs)
one-or-more x xs h = at-least (step_nodes x) (weight xs) (weight (x ∷ xs)) (weight-next x xs) h

-- constructs have nodes

counted-once : (n : ℕ) → 1 ≤ n + 1
counted-once n = omega arith

pub loop-counts : (at : Place) (attrs : Attributes) (p : Pos) (head : LoopHead) (b : Block)
    → 1 ≤ step_nodes (item at (for_loop attrs p head b))
loop-counts at attrs p head b = counted-once (nodes head.start + loop_nodes head at)

pub if-counts : (at : Place) (attrs : Attributes) (p : Pos) (c : Expr) (b : Block)
    → 1 ≤ step_nodes (item at (if_only attrs p c b))
if-counts at attrs p c b = counted-once (nodes c)

pub else-counts : (at : Place) (attrs : Attributes) (p : Pos) (c : Expr) (b d : Block)
    → 1 ≤ step_nodes (item at (if_else attrs p c b d))
else-counts at attrs p c b d = counted-once (nodes c)

pub positive-sum : (n c : ℕ) → 0 < n → 0 < n + c
positive-sum n c z = omega arith

pub positive-one : 0 < 1
positive-one = omega arith

module _ (ms : List Module) (goes : Const → Bool) (next : Const → Const) (path label : List ℕ)
    (body : Const → List Step) where
  -- of a turn from which so many follow
  pub record IsOf (c : Const) (n : List ℕ) : Type 0 where
    pub turn : IsTurn c
    pub under : Under (turn_path path label c) Any n

  -- of one of the last turns
  pub record IsLater (k : ℕ) (n : List ℕ) : Type 0 where
    pub value : Const
    pub count : ℕ
    pub ends : EndsIn goes next count value
    pub late : count ≤ k
    pub of : IsOf value n

  same-value : (c d : Const) (n : List ℕ) → IsOf c n → IsOf d n → c ≡ d
  same-value c d n h k =
      let e : path ++ (label ++ 91 ∷ (index c ++ 93 ∷ 46 ∷ h.under.rest))
      ≡ path ++ (label ++ 91 ∷ (index d ++ 93 ∷ 46 ∷ k.under.rest))
      = sym (inside-turn path label (index c) h.under.rest) ∙ sym h.under.is ∙ k.under.is
      ∙ inside-turn path label (index d) k.under.rest in
      let g : 91 ∷ (index c ++ 93 ∷ 46 ∷ h.under.rest) ≡ 91 ∷ (index d ++ 93 ∷ 46 ∷ k.under.rest)
      = append_cancel_left label _ _ (append_cancel_left path _ _ e) in
      same_turn c d (46 ∷ h.under.rest) (46 ∷ k.under.rest) h.turn k.turn (append_cancel_left (91 ∷ []) _ _ g)

  apart : (c : Const) (k : ℕ) → EndsIn goes next (suc k) c → (n : List ℕ) → IsOf c n → IsLater k n → ⊥
  apart c k e n h l =
      let same : c ≡ l.value = same-value c l.value n h l.of in
      let f : EndsIn goes next (suc k) l.value = subst (EndsIn goes next (suc k)) same e in
      let g : suc k ≡ l.count = ends-once goes next (suc k) l.count l.value f l.ends in
      let late : l.count ≤ k = l.late in absurd (omega arith)

  good-if : (b : Bool) (P : List ℕ → Type 0) (xs : List Step)
      → (AreClear ms xs → AreFew 1 xs → Good P (full_names xs))
      → AreClear ms (if b then xs else []) → AreFew 1 (if b then xs else [])
      → Good P (full_names (if b then xs else []))
  good-if true P xs f h l = f h l
  good-if false P xs f h l = good-none P

  pub good-turns : (n : ℕ) (c : Const) (k : ℕ) → IsTurn c → ((d : Const) → IsTurn (next d))
      → EndsIn goes next k c
      → ((d : Const) → AreClear ms (body d) → AreFew 1 (body d)
      → Good (Under (turn_path path label d) Any) (full_names (body d)))
      → AreClear ms (turns n goes next body c) → AreFew 1 (turns n goes next body c)
      → Good (IsLater k) (full_names (turns n goes next body c))
  good-turns zero c k t u e f h l = good-none (IsLater k)
  good-turns (suc n) c zero t u e f h l = by (goes c) e h l
    where
      by : (b : Bool) → b ≡ false
          → AreClear ms (if b then body c ++ turns n goes next body (next c) else [])
          → AreFew 1 (if b then body c ++ turns n goes next body (next c) else [])
          → Good (IsLater zero) (full_names (if b then body c ++ turns n goes next body (next c) else []))
      by true e h l = absurd (clash refl e)
      by false e h l = good-none (IsLater zero)
  good-turns (suc n) c (suc k) t u e f h l =
      let xs : List Step = body c in let ys : List Step = turns n goes next body (next c) in
      good-if (goes c) (IsLater (suc k)) (xs ++ ys)
      (λ h l. good-both (IsOf c) (IsLater k) (IsLater (suc k)) xs ys (apart c k e)
      (λ m p. record { value = c; count = suc k; ends = e; late = omega arith; of = p })
      (λ m p. let late : p.count ≤ k = p.late in
      record { value = p.value; count = p.count; ends = p.ends; late = omega arith; of = p.of })
      (good-map (λ m p. record { turn = t; under = p }) (full_names xs)
      (f c (front (IsClear ms) xs ys h) (few-front 1 xs ys l)))
      (good-turns n (next c) k (u c) u e.1 f (back (IsClear ms) xs ys h) (few-back 1 xs ys l))) h l

-- of the scope around the loop
pub later-under : (ms : List Module) (goes : Const → Bool) (next : Const → Const) (path label : List ℕ)
    (body : Const → List Step) (H : List ℕ → Type 0) (k : ℕ) → Plain label → H label
    → (n : List ℕ) → IsLater ms goes next path label body k n → Under path H n
later-under ms goes next path label body H k plain h n l = record {
  rest = label ++ 91 ∷ (index l.value ++ 93 ∷ 46 ∷ l.of.under.rest);
  is = l.of.under.is ∙ inside-turn path label (index l.value) l.of.under.rest;
  head = subst H (sym (until-mark is_mark label 91 (index l.value ++ 93 ∷ 46 ∷ l.of.under.rest) plain refl)) h;
}

-- How the list of checks is put together.
use Rattle.std.proofs.Common.{◌≡◌, ℕ, zero, suc, ◌+◌, ◌-◌, ◌<◌, Bool, true, false, not, cond, List, [], ◌∷◌, ◌++◌}
use Rattle.std.proofs.Common.{length, drop, get_or, Option, Some, None, refl, ap, sym, ◌∙◌, append_assoc, inl, inr}
use Rattle.std.proofs.Common.{arith}
use Rattle.std.specs.Prelude.{map, nat_lt, ◌≤◌}
use Rattle.std.specs.List.{filter, flat_map, range_with_len, position, position_or_len, remove}
use Rattle.std.proofs.lemmas.Bool.{false≢true, cases_Bool, cases_lt}
use Rattle.std.proofs.lemmas.Bool.Decides.{nat_tests}
use Rattle.std.proofs.lemmas.List.{drop_more}
use Rattle.std.proofs.lemmas.List.Quantifiers.{position-Some}
use Rattle.std.proofs.lemmas.Grind.{common_steps}
use Rattle.ck_cfg.specs.declared.kind.CheckKind.{CheckKind}
use Rattle.ck_cfg.specs.declared.kind.CheckKind.TheVariants.{Insn, Ill, Reg, PcFwd, PcBwd, Causal, Unique, Liveness}
use Rattle.ck_cfg.specs.declared.kind.CheckKind.TheVariants.{Imem, Dmem}
use Rattle.ck_cfg.specs.declared.config.Config.{Config}
use Rattle.ck_cfg.specs.declared.check.Check.{Check}
use Rattle.rv_table.specs.Matching.{has, rows}
use Rattle.ck_cfg.specs.Kind.{kind_name, is_kind}
use Rattle.ck_cfg.specs.Checks.{channel_checks, row_checks, kind_checks, is_named, moved}

range_more : (a n k : ℕ) → n ≡ suc k → range_with_len a n ≡ a ∷ range_with_len (a + 1) k
range_more a n k e = ap (range_with_len a) e

-- one channel more
pub channel_more : (f : ℕ → List Check) (before new all : List Check) (a n : ℕ) → a < n
    → before ++ flat_map f (range_with_len a (n - a)) ≡ all → new ≡ before ++ f a
    → new ++ flat_map f (range_with_len (a + 1) (n - (a + 1))) ≡ all
channel_more f before new all a n lt e g =
    ap (λ x. x ++ flat_map f (range_with_len (a + 1) (n - (a + 1)))) g
    ∙ append_assoc before (f a) (flat_map f (range_with_len (a + 1) (n - (a + 1))))
    ∙ ap (λ x. before ++ flat_map f x) (sym (range_more a (n - a) (n - (a + 1)) (omega arith))) ∙ e

where_kept : {X Y : Type 0} (p : X → Bool) (f : Option X → List Y) (xs : List X)
    → flat_map (λ x. cond (p x) (f (Some x)) []) xs ≡ flat_map f (map (λ x. Some x) (filter p xs))
where_kept p f [] = refl
where_kept p f (x ∷ xs) = step (p x) (where_kept p f xs) where
  step : (b : Bool) → flat_map (λ x. cond (p x) (f (Some x)) []) xs ≡ flat_map f (map (λ x. Some x) (filter p xs))
      → cond b (f (Some x)) [] ++ flat_map (λ x. cond (p x) (f (Some x)) []) xs
      ≡ flat_map f (map (λ x. Some x) (cond b (x ∷ filter p xs) (filter p xs)))
  step true e = ap (λ t. f (Some x) ++ t) e
  step false e = e

-- the rows of the instruction set
pub rows_kept : (c : Config) → flat_map (row_checks c) rows ≡ kind_checks c Insn
rows_kept c = where_kept (has c.isa) (channel_checks c Insn) rows

-- insn is the one kind with rows
pub is_insn : (kind : CheckKind) → is_kind kind Insn ≡ true → kind ≡ Insn
unfolding kind_name
is_insn Insn e = refl
is_insn Ill e = absurd (let f : ⊥ = cc in f)
is_insn Reg e = absurd (let f : ⊥ = cc in f)
is_insn PcFwd e = absurd (let f : ⊥ = cc in f)
is_insn PcBwd e = absurd (let f : ⊥ = cc in f)
is_insn Causal e = absurd (let f : ⊥ = cc in f)
is_insn Unique e = absurd (let f : ⊥ = cc in f)
is_insn Liveness e = absurd (let f : ⊥ = cc in f)
is_insn Imem e = absurd (let f : ⊥ = cc in f)
is_insn Dmem e = absurd (let f : ⊥ = cc in f)

-- the first that passes, and then the others that pass
first_kept : {X : Type 0} (p : X → Bool) (xs : List X) (i : ℕ) (d : X) → i < length xs → p (get_or xs i d) ≡ true
    → ((k : ℕ) → k < i → p (get_or xs k d) ≡ false) → (filter p xs ≡ get_or xs i d ∷ filter p (remove xs i))
    × (filter (λ x. not (p x)) xs ≡ filter (λ x. not (p x)) (remove xs i))
first_kept p [] i d lt t f = absurd (omega arith)
first_kept p (x ∷ xs) zero d lt t f = (
  ap (λ b. cond b (x ∷ filter p xs) (filter p xs)) t,
  ap (λ b. cond (not b) (x ∷ filter (λ x. not (p x)) xs) (filter (λ x. not (p x)) xs)) t,
)
first_kept p (x ∷ xs) (suc i) d lt t f =
    let r = first_kept p xs i d (omega arith) t (λ k h. f (suc k) (omega arith)) in
    let no : p x ≡ false = f zero (omega arith) in (
      ap (λ b. cond b (x ∷ filter p xs) (filter p xs)) no ∙ r.0
          ∙ ap (λ t. get_or xs i d ∷ t) (sym (ap (λ b. cond b (x ∷ filter p (remove xs i))
          (filter p (remove xs i))) no)),
      ap (λ b. cond (not b) (x ∷ filter (λ x. not (p x)) xs) (filter (λ x. not (p x)) xs)) no
          ∙ ap (λ t. x ∷ t) r.1
          ∙ sym (ap (λ b. cond (not b) (x ∷ filter (λ x. not (p x)) (remove xs i))
          (filter (λ x. not (p x)) (remove xs i))) no),
    )

module _ {X : Type 0} (p : X → Bool) (xs : List X) where
  -- the first that passes is taken
  pub taken : (i : ℕ) (x : X) (front now left : List X) → Some i ≡ position p xs → x ≡ get_or xs i x
      → now ≡ front ++ x ∷ [] → left ≡ remove xs i → (all : List X) (others : List X) → front ++ filter p xs ≡ all
      → filter (λ y. not (p y)) xs ≡ others → (now ++ filter p left ≡ all) × (filter (λ y. not (p y)) left ≡ others)
      × (i < length xs)
  taken i x front now left at is n l all others e o =
      let s = position-Some p xs i x (sym at) in
      let r = first_kept p xs i x s.0 s.1 s.2 in (
        ap (λ t. t ++ filter p left) n ∙ append_assoc front (x ∷ []) (filter p left)
            ∙ ap (λ t. front ++ x ∷ filter p t) l
            ∙ ap (λ y. front ++ y ∷ filter p (remove xs i)) is ∙ ap (λ t. front ++ t) (sym r.0) ∙ e,
        ap (filter (λ y. not (p y))) l ∙ sym r.1 ∙ o,
        s.0,
      )

-- none passes
none_kept : {X : Type 0} (p : X → Bool) (xs : List X) → length xs ≤ position_or_len p xs → (filter p xs ≡ [])
    × (filter (λ x. not (p x)) xs ≡ xs)
none_kept p [] e = (refl, refl)
none_kept p (x ∷ xs) e = elim (cases_Bool (p x)) [
  | inl t ↦ absurd (first t)
  | inr f ↦
      let r = none_kept p xs (behind f) in (
        ap (λ b. cond b (x ∷ filter p xs) (filter p xs)) f ∙ r.0,
        ap (λ b. cond (not b) (x ∷ filter (λ x. not (p x)) xs) (filter (λ x. not (p x)) xs)) f ∙ ap (λ t. x ∷ t) r.1,
      )
] where
  first : p x ≡ true → ⊥
  first t = grind (arith, common_steps)

  behind : p x ≡ false → length xs ≤ position_or_len p xs
  behind f = grind (arith, common_steps)

pub none_left : {X : Type 0} (p : X → Bool) (xs : List X) → None ≡ position p xs → (filter p xs ≡ [])
    × (filter (λ x. not (p x)) xs ≡ xs)
none_left p xs e = elim (cases_lt (position_or_len p xs) (length xs)) [
  | inl lt ↦ absurd (found (nat_lt (position_or_len p xs) (length xs)) (grind (arith, nat_tests)) e)
  | inr ge ↦ none_kept p xs ge
] where
  found : (b : Bool) → b ≡ true → None ≡ cond b (Some (position_or_len p xs)) None → ⊥
  found true t f = cc
  found false t f = absurd (false≢true t)

-- one name more
pub move_more : (names : List (List ℕ)) (i : ℕ) (name d : List ℕ) (front new rest left all : List Check)
    → i < length names → name ≡ get_or names i d → front ++ moved (drop i names) rest ≡ all
    → new ≡ front ++ filter (is_named name) rest → left ≡ filter (λ c. not (is_named name c)) rest
    → new ++ moved (drop (i + 1) names) left ≡ all
move_more names i name d front new rest left all lt is e n l =
    ap (λ t. t ++ moved (drop (i + 1) names) left) n
    ∙ append_assoc front (filter (is_named name) rest) (moved (drop (i + 1) names) left)
    ∙ ap (λ t. front ++ (filter (is_named name) rest ++ moved (drop (i + 1) names) t)) l
    ∙ ap (λ m. front ++ moved (m ∷ drop (i + 1) names) rest) is
    ∙ ap (λ ms. front ++ moved ms rest) (sym (drop_more names i d lt)) ∙ e

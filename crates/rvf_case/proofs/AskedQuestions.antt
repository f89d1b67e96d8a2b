-- What is asked of a text, as it is put together.
use Rattle.std.proofs.Common.{◌≡◌, Bool, true, false, cond, ◌&&◌, ◌||◌, List, [], ◌∷◌, refl}
use Rattle.std.proofs.Common.{◌∙◌, ap}
use Rattle.std.specs.List.{filter, list_any}
use Rattle.ck_cfg.specs.declared.config.Config.{Config}
use Rattle.ck_cfg.specs.declared.check.Check.{Check}
use Rattle.ck_cfg.specs.declared.kind.CheckKind.{CheckKind}
use Rattle.ck_cfg.specs.declared.kind.CheckKind.TheVariants.{Imem, Dmem}
use Rattle.ck_cfg.specs.Kind.{is_kind}
use Rattle.rvf_load.specs.declared.asked.Probes.{Probes}
use Rattle.rvf_case.specs.Steps.{has_asking, kept_for}
use Rattle.rvf_case.specs.Texts.{is_same_text, probes_for}

and_true : (b : Bool) → (b && true) ≡ b
and_true true = refl
and_true false = refl

and_false : (b : Bool) → (b && false) ≡ false
and_false true = refl
and_false false = refl

-- a test of those elements that pass another one
pub any_kept : {X : Type 0} (p q : X → Bool) (xs : List X)
    → list_any (λ x. p x && q x) xs ≡ list_any p (filter q xs)
any_kept p q [] = refl
any_kept p q (x ∷ xs) = step (q x) (any_kept p q xs) where
  step : (b : Bool) → list_any (λ x. p x && q x) xs ≡ list_any p (filter q xs)
      → ((p x && b) || list_any (λ x. p x && q x) xs) ≡ list_any p (cond b (x ∷ filter q xs) (filter q xs))
  step true r = ap (λ t. t || list_any (λ x. p x && q x) xs) (and_true (p x)) ∙ ap (λ t. p x || t) r
  step false r = ap (λ t. t || list_any (λ x. p x && q x) xs) (and_false (p x)) ∙ r

abbrev of : Bool → Bool → Probes
of i d = record { imem = i; dmem = d }

-- the probes that are asked for
pub probes_are : (c : Config) (kind : CheckKind) (checks : List Check) (i d : Bool)
    → i ≡ has_asking c kind Imem checks → d ≡ has_asking c kind Dmem checks
    → of i d ≡ probes_for (kept_for c kind checks)
probes_are c kind checks i d e f =
    ap (λ b. of b d) (e ∙ any_kept (λ x. is_kind x.kind Imem) (λ x. is_same_text c kind x.kind) checks)
    ∙ ap (of (list_any (λ x. is_kind x.kind Imem) (kept_for c kind checks)))
    (f ∙ any_kept (λ x. is_kind x.kind Dmem) (λ x. is_same_text c kind x.kind) checks)

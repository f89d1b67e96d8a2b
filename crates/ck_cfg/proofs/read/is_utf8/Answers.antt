use Rattle.std.proofs.Common.{◌≡◌, ℕ, List, Result, Ok, Err, sym, ◌∙◌, inl, inr}
use Rattle.std.specs.Str.{is_utf8, IsUtf8}
use Rattle.std.specs.Result.{is_ok}
use Rattle.std.specs.Prelude.{MatchResult}
use Rattle.std.proofs.lemmas.Bool.{cases_Bool}
use Rattle.std.proofs.lemmas.Str.{IsUtf8-from_is_utf8, is_utf8-from_IsUtf8}
use Rattle.ck_cfg.proofs.read.is_utf8.Goals as goal

-- bytes are UTF-8 where they are taken as text
tested : {S E : Type 0} (P : S → Type 0) (Q : E → Type 0) (bytes : List ℕ) (r : Result S E)
    → MatchResult r (λ s. P s × IsUtf8 bytes) (λ e. ¬ (IsUtf8 bytes) × Q e) → is_ok r ≡ is_utf8 bytes
tested P Q bytes (Ok s) h = sym (is_utf8-from_IsUtf8 bytes h.1)
tested P Q bytes (Err e) h =
    elim (cases_Bool (is_utf8 bytes)) [ inl t ↦ absurd (h.0 (IsUtf8-from_is_utf8 bytes t)) | inr f ↦ sym f ]

pub returns : goal.returns
returns c = c.is_ok.ensures.value ∙ tested _ _ c.args.bytes.now c.from_utf8.result c.from_utf8.ensures.cases

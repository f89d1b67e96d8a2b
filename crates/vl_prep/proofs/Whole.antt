-- The reading of a whole text by the rules of groups, and token by token.
use Rattle.std.proofs.Common.{◌≡◌, List, refl, ap, sym, ◌∙◌, subst}
use Rattle.std.specs.Prelude.{Option, Some, None, Result, Ok, Err}
use Rattle.fv_text.specs.declared.token.Token.{Token}
use Rattle.vl_prep.specs.declared.fault.PrepFault.{PrepFault}
use Rattle.vl_prep.specs.declared.refusal.Refusal.{Refusal}
use Rattle.vl_prep.specs.Macros.{Held}
use Rattle.vl_prep.specs.Refusals.{fault_of}
use Rattle.vl_prep.specs.Prep.{Done, Outcome, at_first, read_from, expand, started, answer, answer_of, preprocessed}
use Rattle.vl_prep.specs.Groups.{Reads, Expands, IsRead, IsPreprocessed, IsRefused}
use Rattle.vl_prep.proofs.ByRules.{only_groups}
use Rattle.vl_prep.proofs.Total.{whole, expands_all}

abbrev comes : Held → List Token → Done
comes macros tokens = read_from None (expand 32) (started (at_first macros)) tokens

-- what the reading comes to, the rules lead to
is_read : (macros : Held) (tokens : List Token) → IsRead macros tokens (comes macros tokens)
is_read macros tokens =
    let w = whole None (Expands 32) (expands_all 32) tokens (at_first macros) in
    subst (λ d. IsRead macros tokens d) (sym (only_groups macros tokens w.0 w.1)) w.1

abbrev OnAnswer : Held → List Token → Result Outcome PrepFault → Type 0
OnAnswer macros tokens (Ok r) = IsPreprocessed macros tokens r
OnAnswer macros tokens (Err f) = IsRefused macros tokens f

answered : (macros : Held) (tokens : List Token) (done : Done) (o : Option Refusal) → done.refusal ≡ o
    → IsRead macros tokens done → OnAnswer macros tokens (answer_of done o)
answered macros tokens done None e h =
    subst (λ z. IsRead macros tokens (record { macros = done.macros; output = done.output; refusal = z })) e h
answered macros tokens done (Some r) e h = record { done = done; reads = h; refusal = r; met = e; answered = refl }

on_answer : (macros : Held) (tokens : List Token) → OnAnswer macros tokens (preprocessed macros tokens)
on_answer macros tokens =
    answered macros tokens (comes macros tokens) (comes macros tokens).refusal refl (is_read macros tokens)

pub groups_of : (macros : Held) (tokens : List Token) (r : Outcome) → preprocessed macros tokens ≡ Ok r
    → IsPreprocessed macros tokens r
groups_of macros tokens r e = subst (OnAnswer macros tokens) e (on_answer macros tokens)

pub refusal_of : (macros : Held) (tokens : List Token) (f : PrepFault) → preprocessed macros tokens ≡ Err f
    → IsRefused macros tokens f
refusal_of macros tokens f e = subst (OnAnswer macros tokens) e (on_answer macros tokens)

pub only_preprocessed : (macros : Held) (tokens : List Token) (r : Outcome) → IsPreprocessed macros tokens r
    → preprocessed macros tokens ≡ Ok r
only_preprocessed macros tokens r h =
    ap answer (only_groups macros tokens (record { macros = r.macros; output = r.output; refusal = None }) h)

pub only_refused : (macros : Held) (tokens : List Token) (f : PrepFault) → IsRefused macros tokens f
    → preprocessed macros tokens ≡ Err f
only_refused macros tokens f h =
    ap answer (only_groups macros tokens h.done h.reads) ∙ ap (answer_of h.done) h.met
    ∙ ap (λ z. Err z) (sym h.answered)

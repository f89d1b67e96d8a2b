-- What the status of some answers tells of them.
use Rattle.std.proofs.Common.{◌≡◌, Bool, true, false, ◌||◌, ◌==◌, if◌then◌else◌, List, ◌∷◌, refl, sym, subst}
use Rattle.std.proofs.Common.{inl, inr, ◌⊎◌}
use Rattle.std.specs.List.{list_any}
use Rattle.ck_ask.specs.declared.question.Question.{Question}
use Rattle.rvf_judge.specs.declared.judged.Judged.{Judged}
use Rattle.rvf_checks.specs.Counting.{any_fails, fails, is_spent, status_of}
use Rattle.rvf_report.specs.Status.{code_of}
use Rattle.rvf_report.specs.declared.status.Status.{Status}
use Rattle.rvf_report.specs.declared.status.Status.TheVariants as s
use Rattle.rvf_core.specs.Run.{comes}

-- the statuses of answers
pub data IsVerdict (status : Status) : Type 0 where
  pass : status ≡ s.Passed → IsVerdict status
  fail : status ≡ s.Failing → IsVerdict status
  spent : status ≡ s.Spent → IsVerdict status

failing_passed : s.Failing ≡ s.Passed → ⊥
failing_passed e = cc

spent_passed : s.Spent ≡ s.Passed → ⊥
spent_passed e = cc

spent_failing : s.Spent ≡ s.Failing → ⊥
spent_failing e = cc

pub passed_failing : s.Passed ≡ s.Failing → ⊥
passed_failing e = cc

pub chosen : (fails spends : Bool)
    → IsVerdict (if fails then s.Failing else if spends then s.Spent else s.Passed)
chosen true spends = fail refl
chosen false true = spent refl
chosen false false = pass refl

pub is_verdict : (qs : List Question) (js : List Judged) → IsVerdict (status_of qs js)
is_verdict qs js = chosen (any_fails qs js) (list_any is_spent js)

-- an answer is there, and its question doesn't fail
pub record IsClear (q : Question) (j : Judged) : Type 0 where
  pub clear : fails q j ≡ false
  pub answered : is_spent j ≡ false

pub clear_of : (fail fails spend spends : Bool)
    → (if fail || fails then s.Failing else if spend || spends then s.Spent else s.Passed) ≡ s.Passed
    → (fail ≡ false) × (spend ≡ false)
    × ((if fails then s.Failing else if spends then s.Spent else s.Passed) ≡ s.Passed)
clear_of true fails spend spends e = absurd (failing_passed e)
clear_of false true spend spends e = absurd (failing_passed e)
clear_of false false true spends e = absurd (spent_passed e)
clear_of false false false spends e = (refl, refl, e)

-- where they pass, each is clear
pub all_clear : (q : Question) (qs : List Question) (j : Judged) (js : List Judged)
    → status_of (q ∷ qs) (j ∷ js) ≡ s.Passed → IsClear q j × (status_of qs js ≡ s.Passed)
all_clear q qs j js e =
    let f = clear_of (fails q j) (any_fails qs js) (is_spent j) (list_any is_spent js) e in
    (record { clear = f.0; answered = f.1 }, f.2)

fails_or : (fail fails spend spends : Bool)
    → (if fail || fails then s.Failing else if spend || spends then s.Spent else s.Passed) ≡ s.Failing
    → (fail ≡ true) ⊎ ((if fails then s.Failing else if spends then s.Spent else s.Passed) ≡ s.Failing)
fails_or true fails spend spends e = inl refl
fails_or false true spend spends e = inr refl
fails_or false false true spends e = absurd (spent_failing e)
fails_or false false false true e = absurd (spent_failing e)
fails_or false false false false e = absurd (passed_failing e)

-- where they fail, one fails
pub one_fails : (q : Question) (qs : List Question) (j : Judged) (js : List Judged)
    → status_of (q ∷ qs) (j ∷ js) ≡ s.Failing → (fails q j ≡ true) ⊎ (status_of qs js ≡ s.Failing)
one_fails q qs j js e = fails_or (fails q j) (any_fails qs js) (is_spent j) (list_any is_spent js) e

-- ---- tests of statuses

or_true : (b : Bool) → (b || true) ≡ true
or_true true = refl
or_true false = refl

pub comes_WriteFault : (wanted : Status) → comes wanted s.WriteFault ≡ true
comes_WriteFault wanted = or_true (code_of s.WriteFault == code_of wanted)

pub comes_Memory : (wanted : Status) → comes wanted s.Memory ≡ true
comes_Memory wanted = or_true (code_of s.Memory == code_of wanted)

comes_same : (status : Status) → comes status status ≡ true
comes_same s.Passed = refl
comes_same s.Failing = refl
comes_same s.Spent = refl
comes_same s.Usage = refl
comes_same s.Config = refl
comes_same s.Source = refl
comes_same s.Absent = refl
comes_same s.ReadFault = refl
comes_same s.WriteFault = refl
comes_same s.Heavy = refl
comes_same s.Refused = refl
comes_same s.Memory = refl

pub comes_itself : (wanted status : Status) → status ≡ wanted → comes wanted status ≡ true
comes_itself wanted status is = subst (λ w. comes wanted w ≡ true) (sym is) (comes_same wanted)

-- of the statuses of answers
pub by_verdict : (test : Status → Bool) (status : Status) → IsVerdict status
    → (status ≡ s.Passed → test s.Passed ≡ true) → (status ≡ s.Failing → test s.Failing ≡ true)
    → test s.Spent ≡ true → test status ≡ true
by_verdict test status (pass e) p f q = subst (λ x. test x ≡ true) (sym e) (p e)
by_verdict test status (fail e) p f q = subst (λ x. test x ≡ true) (sym e) (f e)
by_verdict test status (spent e) p f q = subst (λ x. test x ≡ true) (sym e) q

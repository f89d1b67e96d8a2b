-- A report that goes on, or comes to a fault.
use Rattle.std.proofs.Common.{◌≡◌, ℕ, ◌+◌, ◌<◌, ◌≤◌, List, [], ◌∷◌, ◌++◌, length, Ok, Err, refl, sym, ap, ◌∙◌, subst}
use Rattle.std.proofs.Common.{arith, min, ◌-◌}
use Rattle.std.specs.Iterator.{Yields}
use Rattle.std.specs.Vec.Iter.{into_iter_items, into_iter_steps}
use Rattle.std.specs.declared.vec.IntoIter.{IntoIter}
use Rattle.std.proofs.lemmas.List.{length_push}
use Rattle.fv_base.specs.declared.out.OutFault.{OutFault}
use Rattle.fv_base.specs.declared.out.OutFault.TheVariants as out
use Rattle.rvf_report.specs.Reports.{AreAnswersFrom, Concludes, Plan, Reports, all, begun, front, whole}
use Rattle.rvf_report.specs.Outcome.{Outside, Delivers, IsDelivered}
use Rattle.rvf_report.specs.Status.{IsOfAnswers, UnlessBroken}
use Rattle.rvf_report.specs.Steps.{AreUnmoved, CountsIn, CutsOff, Ends, Stands}
use Rattle.rvf_report.specs.declared.status.Status.{Status}
use Rattle.rvf_report.specs.declared.status.Status.TheVariants as s
use Rattle.rvf_report.proofs.Answering.{answer_at, begun_more, begun_none, first_more, one_longer}
use Rattle.rvf_report.proofs.Answering.{tally_one_more}
use Rattle.rvf_report.proofs.Deliveries.{AreUnmoved-trans, CountsIn-behind, Delivers-behind, IsDelivered-all}
use Rattle.rvf_report.proofs.Deliveries.{IsDelivered-behind}

-- ---- a list that is used up from its front

pub taken_front : {X A : Type 0} (s : IntoIter X A) (xs : List X) (t : IntoIter X A) → Yields into_iter_steps s xs t
    → into_iter_items s ≡ xs ++ into_iter_items t
taken_front s [] t y = ap into_iter_items y
taken_front s (x ∷ xs) t y = y.1.0 ∙ ap (λ ys. x ∷ ys) (taken_front y.0 xs t y.2)

pub one_placed : {A : Type 0} (a b c : ℕ) (xs : List A) (x : A) → c ≡ b + 1 → b ≡ a + length xs
    → c ≡ a + length (xs ++ x ∷ [])
one_placed a b c xs x next here = omega (arith, next, here, length_push xs x)

pub more_placed : (a n c : ℕ) → 1 ≤ n → c ≡ a + n → a < c
more_placed a n c some more = omega (arith, some, more)

pub few_placed : (a n c size : ℕ) → a + n ≤ size → c ≡ a + n → c ≤ size
few_placed a n c size within more = omega (arith, within, more)

-- ---- a batch

pub some_count : (count left jobs : ℕ) → count ≡ min left jobs → 1 ≤ left → 1 ≤ jobs → 1 ≤ count
some_count count left jobs is some_left some_jobs = omega arith

pub few_count : (count size first jobs : ℕ) → count ≡ min (size - first) jobs → first < size → first + count ≤ size
few_count count size first jobs is left = omega arith

module _ {A T : Type 0} (plan : Plan A T) where
  -- of answers that are used up from their front the next one
  pub next_answer : (i : ℕ) (items xs rest ys : List A) (a : A) → items ≡ xs ++ rest → rest ≡ a ∷ ys
      → AreAnswersFrom plan i items → plan.is_answer (i + length xs) a
  next_answer i items xs rest ys a split next are =
      answer_at plan i xs ys a
      (subst (λ l. AreAnswersFrom plan i l) (split ∙ ap (λ l. xs ++ l) next) are)

  -- ---- the report

  -- a fault within the report of a front
  cut_off : (fault : OutFault) (a c : Outside) (answers : List A) → AreAnswersFrom plan 0 answers
      → IsDelivered (Err fault) a c (begun plan answers) → CountsIn (Err fault) a c → CutsOff plan a c fault
  cut_off fault a c answers are q moved = record {
    answers = answers;
    are = are;
    report = begun plan answers;
    is = front refl;
    ended = q;
    counts = moved;
  }

  -- ---- the head

  pub begins : (a b : Outside) (tally : T) → tally ≡ plan.none → Delivers a b plan.head → AreUnmoved a b
      → Stands plan a b 0 tally
  begins a b tally none d quiet = record {
    answers = [];
    are = tt;
    many = refl;
    tally_is = none;
    delivered = subst (λ l. Delivers a b l) (begun_none plan) d;
    quiet = quiet;
  }

  pub begins_not : (fault : OutFault) (a b : Outside) → IsDelivered (Err fault) a b plan.head
      → CountsIn (Err fault) a b → CutsOff plan a b fault
  begins_not fault a b d moved =
      cut_off fault a b [] tt (subst (λ l. IsDelivered (Err fault) a b l) (begun_none plan) d) moved

  -- ---- one answer more

  module _ (a b c : Outside) (place : ℕ) (tally : T) (answer : A) (stands : Stands plan a b place tally)
      (is : plan.is_answer place answer) where
    are_now : AreAnswersFrom plan 0 (stands.answers ++ answer ∷ [])
    are_now = first_more plan place stands.answers answer stands.many stands.are is

    more_is : begun plan stands.answers ++ plan.deliveries place answer ≡ begun plan (stands.answers ++ answer ∷ [])
    more_is = begun_more plan place stands.answers answer stands.many

    pub goes_on : (after : T) → after ≡ plan.counted place tally answer
        → Delivers b c (plan.deliveries place answer) → AreUnmoved b c → Stands plan a c (place + 1) after
    goes_on after after_is d quiet = record {
      answers = stands.answers ++ answer ∷ [];
      are = are_now;
      many = one_longer plan place stands.answers answer stands.many;
      tally_is = after_is ∙ ap (λ t. plan.counted place t answer) stands.tally_is
          ∙ sym (tally_one_more plan place stands.answers answer stands.many);
      delivered = subst (λ l. Delivers a c l) more_is
          (Delivers-behind a b c (begun plan stands.answers) (plan.deliveries place answer) stands.delivered d);
      quiet = AreUnmoved-trans a b c stands.quiet quiet;
    }

    pub goes_no_further : (fault : OutFault) → IsDelivered (Err fault) b c (plan.deliveries place answer)
        → CountsIn (Err fault) b c → CutsOff plan a c fault
    goes_no_further fault d moved =
        cut_off fault a c (stands.answers ++ answer ∷ []) are_now
        (subst (λ l. IsDelivered (Err fault) a c l) more_is
        (IsDelivered-behind fault a b c (begun plan stands.answers) (plan.deliveries place answer) stands.delivered
        stands.quiet d))
        (CountsIn-behind fault a b c stands.quiet moved)

  -- memory was wanted before the next answer
  pub wants_memory : (a b : Outside) (place : ℕ) (tally : T) → Stands plan a b place tally
      → CutsOff plan a b out.Memory
  wants_memory a b place tally stands =
      cut_off out.Memory a b stands.answers stands.are
      (IsDelivered-all a b (begun plan stands.answers) stands.delivered) stands.quiet

  -- ---- the end

  module _ (a b c : Outside) (place : ℕ) (tally : T) (stands : Stands plan a b place tally)
      (all_answered : place ≡ plan.size) where
    report_is : begun plan stands.answers ++ plan.last tally ≡ whole plan stands.answers
    report_is = ap (λ t. begun plan stands.answers ++ plan.last t) stands.tally_is

    pub finishes : Delivers b c (plan.last tally) → AreUnmoved b c → Ends plan (Ok tally) a c
    finishes d quiet = (
      record {
        answers = stands.answers;
        are = stands.are;
        all = stands.many ∙ all_answered;
        status_is = ap plan.status stands.tally_is;
        delivered = subst (λ l. Delivers a c l) report_is
            (Delivers-behind a b c (begun plan stands.answers) (plan.last tally) stands.delivered d);
      },
      AreUnmoved-trans a b c stands.quiet quiet,
    )

    pub finishes_not : (fault : OutFault) → IsDelivered (Err fault) b c (plan.last tally)
        → CountsIn (Err fault) b c → CutsOff plan a c fault
    finishes_not fault d moved = record {
      answers = stands.answers;
      are = stands.are;
      report = begun plan stands.answers ++ plan.last tally;
      is = all (stands.many ∙ all_answered) report_is;
      ended = IsDelivered-behind fault a b c (begun plan stands.answers) (plan.last tally) stands.delivered
          stands.quiet d;
      counts = CountsIn-behind fault a b c stands.quiet moved;
    }

  -- ---- the status

  by_status : (status : Status) (a b : Outside) → IsOfAnswers status → Reports plan a b status
      → Concludes plan status a b
  by_status s.Passed a b own h = h
  by_status s.Failing a b own h = h
  by_status s.Spent a b own h = h
  by_status s.Usage a b own h = absurd own
  by_status s.Config a b own h = absurd own
  by_status s.Source a b own h = absurd own
  by_status s.Absent a b own h = absurd own
  by_status s.ReadFault a b own h = absurd own
  by_status s.WriteFault a b own h = absurd own
  by_status s.Heavy a b own h = absurd own
  by_status s.Refused a b own h = absurd own
  by_status s.Memory a b own h = absurd own

  pub concludes : (status : Status) (tally : T) (a b : Outside) → status ≡ plan.status tally → IsOfAnswers status
      → Reports plan a b (plan.status tally) → Concludes plan status a b
  concludes status tally a b is own h =
      by_status status a b own (subst (λ x. Reports plan a b x) (sym is) h)

  pub cut_by : (a b : Outside) (fault other : OutFault) → fault ≡ other → CutsOff plan a b fault
      → CutsOff plan a b other
  cut_by a b fault other same h = subst (λ f. CutsOff plan a b f) same h

  pub breaks : (a b : Outside) → CutsOff plan a b out.Failed → Concludes plan s.WriteFault a b
  breaks a b h = record { answers = h.answers; are = h.are; report = h.report; is = h.is; fails = h.ended }

  pub wants : (a b : Outside) → CutsOff plan a b out.Memory → Concludes plan s.Memory a b
  wants a b h = record { answers = h.answers; are = h.are; report = h.report; is = h.is; stops = h.ended }

pub unless_broken : (status : Status) (P : Type 0) → IsOfAnswers status → P → UnlessBroken status P
unless_broken s.Passed P own p = p
unless_broken s.Failing P own p = p
unless_broken s.Spent P own p = p
unless_broken s.Usage P own p = absurd own
unless_broken s.Config P own p = absurd own
unless_broken s.Source P own p = absurd own
unless_broken s.Absent P own p = absurd own
unless_broken s.ReadFault P own p = absurd own
unless_broken s.WriteFault P own p = absurd own
unless_broken s.Heavy P own p = absurd own
unless_broken s.Refused P own p = absurd own
unless_broken s.Memory P own p = absurd own

-- Meaning: What is delivered of jobs that are answered, in their order; and what a call leaves that answers them and
-- delivers what comes of them. Rules of this project.
use Rattle.std.specs.Prelude.{◌≡◌, ℕ, ◌+◌, List, [], ◌∷◌, ◌++◌, length}
use Rattle.rvf_report.specs.Outcome.{Outside, Delivers, Fails, Stops}
use Rattle.rvf_report.specs.declared.delivery.Delivery.{Delivery}
use Rattle.rvf_report.specs.declared.status.Status.{Status}
use Rattle.rvf_report.specs.declared.status.Status.TheVariants as s

-- What is answered, and what is delivered of it: A is what an answer is, and T what is counted of answers. Jobs go by
-- their places, from 0 on.
pub record Plan (A T : Type 0) : Type 1 where
  -- how many jobs there are
  pub size : ℕ
  -- the value is an answer of the job
  pub is_answer : ℕ → A → Type 0
  -- what is delivered before the first answer, of each answer, and behind the last one
  pub head : List Delivery
  pub deliveries : ℕ → A → List Delivery
  pub last : T → List Delivery
  -- the tally of no answers, and that with one more
  pub none : T
  pub counted : ℕ → T → A → T
  -- the status of all answers
  pub status : T → Status

module _ {A T : Type 0} (plan : Plan A T) where
  -- answers of the jobs from a place on, in order
  abbrev pub AreAnswersFrom : ℕ → List A → Type 0
  AreAnswersFrom i [] = Unit {0}
  AreAnswersFrom i (a ∷ rest) = plan.is_answer i a × AreAnswersFrom (i + 1) rest

  -- what is delivered of them
  abbrev pub delivered_from : ℕ → List A → List Delivery
  delivered_from i [] = []
  delivered_from i (a ∷ rest) = plan.deliveries i a ++ delivered_from (i + 1) rest

  -- the tally with them
  abbrev pub tally_from : ℕ → T → List A → T
  tally_from i t [] = t
  tally_from i t (a ∷ rest) = tally_from (i + 1) (plan.counted i t a) rest

  abbrev pub tally_of : List A → T
  tally_of answers = tally_from 0 plan.none answers

  -- the report as far as these answers of the first jobs go
  abbrev pub begun : List A → List Delivery
  begun answers = plan.head ++ delivered_from 0 answers

  -- and the whole of it, once all are answered
  abbrev pub whole : List A → List Delivery
  whole answers = begun answers ++ plan.last (tally_of answers)

  -- all are answered, and the whole report was delivered
  pub record Reports (before now : Outside) (status : Status) : Type 0 where
    pub answers : List A
    pub are : AreAnswersFrom 0 answers
    pub all : length answers ≡ plan.size
    pub status_is : status ≡ plan.status (tally_of answers)
    pub delivered : Delivers before now (whole answers)

-- a report: as far as the answers go, or the whole
pub data IsReport {A T : Type 0} (plan : Plan A T) (answers : List A) (report : List Delivery) : Type 0 where
  front : report ≡ begun plan answers → IsReport plan answers report
  all : length answers ≡ plan.size → report ≡ whole plan answers → IsReport plan answers report

module _ {A T : Type 0} (plan : Plan A T) where
  -- something of a report could not be delivered
  pub record Breaks (before now : Outside) : Type 0 where
    pub answers : List A
    pub are : AreAnswersFrom plan 0 answers
    pub report : List Delivery
    pub is : IsReport plan answers report
    pub fails : Fails before now report

  -- memory was wanted: a front of a report was delivered
  pub record WantsMemory (before now : Outside) : Type 0 where
    pub answers : List A
    pub are : AreAnswersFrom plan 0 answers
    pub report : List Delivery
    pub is : IsReport plan answers report
    pub stops : Stops before now report

  -- how the jobs end
  abbrev pub Concludes : Status → Outside → Outside → Type 0
  Concludes s.Passed before now = Reports plan before now s.Passed
  Concludes s.Failing before now = Reports plan before now s.Failing
  Concludes s.Spent before now = Reports plan before now s.Spent
  Concludes s.WriteFault before now = Breaks before now
  Concludes s.Memory before now = WantsMemory before now
  Concludes status before now = ⊥

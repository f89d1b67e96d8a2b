-- What is loaded of each question's text is fit for the question.
use Rattle.std.proofs.Common.{◌≡◌, ℕ, ◌≤◌, Bool, true, false, cond, ◌||◌, List, [], ◌∷◌, Some, Ok, refl, sym, ◌∙◌}
use Rattle.std.proofs.Common.{ap, subst, inl, inr, arith}
use Rattle.std.specs.Prelude.{if◌then◌else◌, map}
use Rattle.std.specs.List.{AllByRecursion, filter, list_any}
use Rattle.std.proofs.lemmas.Bool.{false≢true}
use Rattle.ck_cfg.specs.declared.check.Check.{Check}
use Rattle.ck_cfg.specs.declared.config.Config.{Config}
use Rattle.ck_cfg.specs.declared.kind.CheckKind.{CheckKind}
use Rattle.ck_cfg.specs.declared.kind.CheckKind.TheVariants as kind
use Rattle.ck_cfg.specs.Checks.{checks_of, is_named}
use Rattle.ck_cfg.specs.Kind.{is_kind, kind_name}
use Rattle.ck_cfg.specs.Lawful.{HasLawfulChecks, IsCheck, least_cycle}
use Rattle.ck_cover.specs.Laws.{IsTarget}
use Rattle.ck_cover.specs.Targets.{targets_of}
use Rattle.ck_cover.specs.declared.target.Target.{Target}
use Rattle.ck_cover.proofs.Lawfulness.{lawful}
use Rattle.vl_lower_spec.proofs.Graphic.{names_graphic}
use Rattle.ck_gen.specs.Monitors.{HasProbe, is_of_one_cycle}
use Rattle.ck_induct.specs.OneCycle.{in_cycle}
use Rattle.rvf_load.specs.Loads.{Answers, Asked, IsLoadedFrom}
use Rattle.rvf_load.specs.declared.loaded.Loaded.{Loaded}
use Rattle.rvf_case.specs.Cases.{IsFit, IsReady, text_among}
use Rattle.rvf_case.specs.Steps.{AreLoadedInTurn, has_same}
use Rattle.rvf_case.specs.Texts.{asked_for, is_same_text, leaders, of_one_cycle, only_named, questions_of}
use Rattle.rvf_case.specs.declared.case.LoadedText.{LoadedText}
use Rattle.rvf_case.proofs.Sames.{IsIn, equal_bytes, led}
use Rattle.ck_ask.specs.Asked.{HasItsProbe, IsQuestion, IsZbCheck}
use Rattle.ck_ask.specs.Questions.{question_kind}
use Rattle.ck_ask.specs.ZbChecks.{zb_checks_of}
use Rattle.ck_ask.specs.declared.zb_check.ZbCheck.{ZbCheck}
use Rattle.ck_ask.proofs.ZbLists.{zb_lawful}
use Rattle.ck_ask.specs.declared.question.Question.{Question}
use Rattle.ck_ask.specs.declared.question.Question.TheVariants as question
use Rattle.rvf_case.specs.declared.asking.Asking.{Asking as RunAsking}
use Rattle.rvf_case.specs.declared.asking.Asking.TheVariants as run
use Rattle.rvf_case.specs.Askings.{Asking, InRange, asking_seen}
use Rattle.rvf_case.specs.Askings as asking

or_false : (a b : Bool) → a ≡ false → (a || b) ≡ true → b ≡ true
or_false true b f t = absurd (false≢true (sym f))
or_false false b f t = t

or_second : (a b : Bool) → b ≡ true → (a || b) ≡ true
or_second true b t = refl
or_second false b t = t

-- one of these checks is of this kind
abbrev has_kind : CheckKind → List Check → Bool
has_kind kind checks = list_any (λ x. is_kind x.kind kind) checks

-- a check of this kind is among those that are kept
kept_kind : (p : Check → Bool) (kind : CheckKind) (xs : List Check) (x : Check) → IsIn x xs → p x ≡ true
    → is_kind x.kind kind ≡ true → has_kind kind (filter p xs) ≡ true
kept_kind p kind [] x i t k = absurd i
kept_kind p kind (y ∷ ys) x (inl e) t k =
    ap (λ b. has_kind kind (cond b (y ∷ filter p ys) (filter p ys))) (ap p (sym e) ∙ t)
    ∙ ap (λ b. b || has_kind kind (filter p ys)) (ap (λ (z : Check). is_kind z.kind kind) (sym e) ∙ k)
kept_kind p kind (y ∷ ys) x (inr i) t k = step (p y) (kept_kind p kind ys x i t k) where
  step : (b : Bool) → has_kind kind (filter p ys) ≡ true
      → has_kind kind (cond b (y ∷ filter p ys) (filter p ys)) ≡ true
  step true h = or_second (is_kind y.kind kind) (has_kind kind (filter p ys)) h
  step false h = h

-- the text among these that stands for that of a kind
pub record HasText (c : Config) (ask : CheckKind → Asked) (kind : CheckKind) (texts : List LoadedText) : Type 0 where
  pub text : LoadedText
  pub there : text_among c kind texts ≡ Some text.loaded
  pub same : is_same_text c text.kind kind ≡ true
  pub loaded : IsLoadedFrom (ask text.kind) text.loaded

has_text : (c : Config) (ask : CheckKind → Asked) (kind : CheckKind) (texts : List LoadedText)
    → AllByRecursion (λ t. Answers (ask t.kind) (Ok t.loaded)) texts
    → has_same c (map (λ t. t.kind) texts) kind ≡ true → HasText c ask kind texts
has_text c ask kind [] a h = absurd (false≢true h)
has_text c ask kind (t ∷ ts) a h =
    step (is_same_text c t.kind kind) refl (has_text c ask kind ts a.1) where
      step : (b : Bool) → is_same_text c t.kind kind ≡ b
          → (has_same c (map (λ t. t.kind) ts) kind ≡ true → HasText c ask kind ts) → HasText c ask kind (t ∷ ts)
      step true e behind = record {
        text = t;
        there = ap (λ b. cond b (Some t.loaded) (text_among c kind ts)) e;
        same = e;
        loaded = a.0.0;
      }
      step false e behind =
          let r : HasText c ask kind ts =
          behind (or_false (is_same_text c t.kind kind) (has_same c (map (λ t. t.kind) ts) kind) e h) in
          record {
            text = r.text;
            there = ap (λ b. cond b (Some t.loaded) (text_among c kind ts)) e ∙ r.there;
            same = r.same;
            loaded = r.loaded;
          }

has_probe : (c : Config) (files : List (List ℕ)) (qs : List Question) (leader : CheckKind) (x : Check) (l : Loaded)
    → IsIn x (checks_of c) → is_same_text c leader x.kind ≡ true → IsLoadedFrom (asked_for c files qs leader) l
    → (k : CheckKind) → x.kind ≡ k → HasProbe l.port k
has_probe c files qs leader x l i s h kind.Insn e = tt
has_probe c files qs leader x l i s h kind.Ill e = tt
has_probe c files qs leader x l i s h kind.Reg e = tt
has_probe c files qs leader x l i s h kind.PcFwd e = tt
has_probe c files qs leader x l i s h kind.PcBwd e = tt
has_probe c files qs leader x l i s h kind.Causal e = tt
has_probe c files qs leader x l i s h kind.Unique e = tt
has_probe c files qs leader x l i s h kind.Liveness e = tt
has_probe c files qs leader x l i s h kind.Imem e =
    h.imem (kept_kind (λ y. is_same_text c leader y.kind) kind.Imem (checks_of c) x i s
    (ap (λ k. is_kind k kind.Imem) e ∙ equal_bytes (kind_name kind.Imem)))
has_probe c files qs leader x l i s h kind.Dmem e =
    h.dmem (kept_kind (λ y. is_same_text c leader y.kind) kind.Dmem (checks_of c) x i s
    (ap (λ k. is_kind k kind.Dmem) e ∙ equal_bytes (kind_name kind.Dmem)))

-- what holds of each element of a list, as it is one
all_in : {X : Type 0} (P Q : X → Type 0) (xs ys : List X) → AllByRecursion P ys
    → ((x : X) → IsIn x ys → IsIn x xs) → ((x : X) → P x → IsIn x xs → Q x) → AllByRecursion Q ys
all_in P Q xs [] a i f = tt
all_in P Q xs (y ∷ ys) a i f = (f y a.0 (i y (inl refl)), all_in P Q xs ys a.1 (λ x j. i x (inr j)) f)

-- ---- questions of checks

-- the check of a question that is asked for each of some checks is among these
same_check : (x y : Check) → question.Check x ≡ question.Check y → x ≡ y
same_check x y e = cc

check_in : (x : Check) (xs : List Check) → IsIn (question.Check x) (map (λ y. question.Check y) xs) → IsIn x xs
check_in x [] i = absurd i
check_in x (y ∷ ys) (inl e) = inl (same_check x y e)
check_in x (y ∷ ys) (inr i) = inr (check_in x ys i)

-- of targets, and of rows of Zba and Zbs, none is a check
target_apart : (x : Check) (t : Target) → question.Check x ≡ question.Target t → ⊥
target_apart x t e = cc

zb_apart : (x : Check) (z : ZbCheck) → question.Check x ≡ question.Zb z → ⊥
zb_apart x z e = cc

no_target : (x : Check) (ts : List Target) → IsIn (question.Check x) (map (λ t. question.Target t) ts) → ⊥
no_target x [] i = i
no_target x (t ∷ ts) (inl e) = target_apart x t e
no_target x (t ∷ ts) (inr i) = no_target x ts i

no_zb : (x : Check) (zs : List ZbCheck) → IsIn (question.Check x) (map (λ z. question.Zb z) zs) → ⊥
no_zb x [] i = i
no_zb x (z ∷ zs) (inl e) = zb_apart x z e
no_zb x (z ∷ zs) (inr i) = no_zb x zs i

-- what is given of a number of steps
pub in_range : (a : RunAsking) → InRange (asking_seen a)
in_range run.Checks = tt
in_range run.Targets = tt
in_range run.Zb = tt
in_range (run.Lengths steps) = (steps.some, steps.few)
in_range (run.One name) = tt

-- questions for things that are lawful
all_lawful : {X : Type 0} (n : ℕ) (make : X → Question) (P : X → Type 0) (xs : List X)
    → ((x : X) → P x → IsQuestion n (make x)) → AllByRecursion P xs → AllByRecursion (IsQuestion n) (map make xs)
all_lawful n make P [] f h = tt
all_lawful n make P (x ∷ xs) f h = (f x h.0, all_lawful n make P xs f h.1)

-- the check with a name is one of the checks
named_in : (name : List ℕ) (xs : List Check) (x : Check) → IsIn x (only_named name xs) → IsIn x xs
named_in name [] x i = absurd i
named_in name (y ∷ ys) x i = step (is_named name y) (named_in name ys x) i where
  step : (b : Bool) → (IsIn x (only_named name ys) → IsIn x ys)
      → IsIn x (if b then y ∷ [] else only_named name ys) → IsIn x (y ∷ ys)
  step true h (inl e) = inl e
  step true h (inr none) = absurd none
  step false h j = inr (h j)

named_lawful : (P : Check → Type 0) (name : List ℕ) (xs : List Check) → AllByRecursion P xs
    → AllByRecursion P (only_named name xs)
named_lawful P name [] h = tt
named_lawful P name (x ∷ xs) h = step (is_named name x) (named_lawful P name xs h.1) where
  step : (b : Bool) → AllByRecursion P (only_named name xs)
      → AllByRecursion P (if b then x ∷ [] else only_named name xs)
  step true k = (h.0, tt)
  step false k = k

-- so of checks of one cycle, in another cycle from 1 to 100
least_small : (k : CheckKind) → least_cycle k ≤ 1
least_small kind.Insn = omega arith
least_small kind.Ill = omega arith
least_small kind.Reg = omega arith
least_small kind.PcFwd = omega arith
least_small kind.PcBwd = omega arith
least_small kind.Causal = omega arith
least_small kind.Unique = omega arith
least_small kind.Liveness = omega arith
least_small kind.Imem = omega arith
least_small kind.Dmem = omega arith

in_cycle_lawful : (n k : ℕ) (x : Check) → 1 ≤ k → k ≤ 100 → IsCheck n x → IsCheck n (in_cycle x k)
in_cycle_lawful n k x some few h = record {
  lawful = record {
    row = h.lawful.row;
    start = omega arith;
    trig = omega arith;
    least = omega (arith, least_small x.kind, some);
    most = few;
  };
  channel = h.channel;
}

lengths_lawful : (n k : ℕ) (xs : List Check) → 1 ≤ k → k ≤ 100 → AllByRecursion (IsCheck n) xs
    → AllByRecursion (IsCheck n) (of_one_cycle k xs)
lengths_lawful n k [] some few h = tt
lengths_lawful n k (x ∷ xs) some few h = step (is_of_one_cycle x.kind) (lengths_lawful n k xs some few h.1) where
  step : (b : Bool) → AllByRecursion (IsCheck n) (of_one_cycle k xs)
      → AllByRecursion (IsCheck n)
      (map (λ y. in_cycle y k) (cond b (x ∷ filter (λ y. is_of_one_cycle y.kind) xs) (filter (λ y. is_of_one_cycle y.kind) xs)))
  step true r = (in_cycle_lawful n k x some few h.0, r)
  step false r = r

-- and each is that of a check
length_in : (k : ℕ) (xs : List Check) (x : Check) → IsIn x (of_one_cycle k xs)
    → (y : Check) × IsIn y xs × (x ≡ in_cycle y k)
length_in k [] x i = absurd i
length_in k (z ∷ zs) x i = step (is_of_one_cycle z.kind) (length_in k zs x) i where
  step : (b : Bool) → (IsIn x (of_one_cycle k zs) → (y : Check) × IsIn y zs × (x ≡ in_cycle y k))
      → IsIn x (map (λ y. in_cycle y k) (cond b (z ∷ filter (λ y. is_of_one_cycle y.kind) zs) (filter (λ y. is_of_one_cycle y.kind) zs)))
      → (y : Check) × IsIn y (z ∷ zs) × (x ≡ in_cycle y k)
  step true r (inl e) = (z, inl refl, e)
  step true r (inr j) = let u = r j in (u.0, inr u.1, u.2)
  step false r j = let u = r j in (u.0, inr u.1, u.2)

pub questions_lawful : (a : Asking) (c : Config) → InRange a → HasLawfulChecks c
    → AllByRecursion (IsQuestion c.nret) (questions_of a c)
questions_lawful asking.Checks c r h =
    all_lawful c.nret (λ x. question.Check x) (IsCheck c.nret) (checks_of c) (λ x k. k) h
questions_lawful asking.Targets c r h =
    all_lawful c.nret (λ t. question.Target t) (IsTarget c.nret) (targets_of (checks_of c)) (λ t k. k)
    (lawful c.nret (checks_of c) h)
questions_lawful asking.Zb c r h =
    all_lawful c.nret (λ z. question.Zb z) (IsZbCheck c.nret) (zb_checks_of (checks_of c) c.nret) (λ z k. k)
    (zb_lawful c.nret (checks_of c) h)
questions_lawful (asking.Lengths k) c r h =
    all_lawful c.nret (λ x. question.Check x) (IsCheck c.nret) (of_one_cycle k (checks_of c)) (λ x k. k)
    (lengths_lawful c.nret k (checks_of c) r.0 r.1 h)
questions_lawful (asking.One name) c r h =
    all_lawful c.nret (λ x. question.Check x) (IsCheck c.nret) (only_named name (checks_of c)) (λ x k. k)
    (named_lawful (IsCheck c.nret) name (checks_of c) h)

-- what is loaded of a text that a question has, has its probe
check_has_probe : (a : Asking) (c : Config) (files : List (List ℕ)) (qs : List Question) (leader : CheckKind)
    (x : Check) (l : Loaded) → IsIn (question.Check x) (questions_of a c) → is_same_text c leader x.kind ≡ true
    → IsLoadedFrom (asked_for c files qs leader) l → HasProbe l.port x.kind
check_has_probe asking.Checks c files qs leader x l i s h =
    has_probe c files qs leader x l (check_in x (checks_of c) i) s h x.kind refl
check_has_probe asking.Targets c files qs leader x l i s h = absurd (no_target x (targets_of (checks_of c)) i)
check_has_probe asking.Zb c files qs leader x l i s h = absurd (no_zb x (zb_checks_of (checks_of c) c.nret) i)
check_has_probe (asking.Lengths k) c files qs leader x l i s h =
    let y = length_in k (checks_of c) x (check_in x (of_one_cycle k (checks_of c)) i) in
    let same : x.kind ≡ y.0.kind = ap (λ (z : Check). z.kind) y.2 in
    subst (λ (k : CheckKind). HasProbe l.port k) (sym same)
    (has_probe c files qs leader y.0 l y.1 (ap (is_same_text c leader) (sym same) ∙ s) h y.0.kind refl)
check_has_probe (asking.One name) c files qs leader x l i s h =
    has_probe c files qs leader x l
    (named_in name (checks_of c) x (check_in x (only_named name (checks_of c)) i)) s h x.kind refl

has_its_probe : (a : Asking) (c : Config) (files : List (List ℕ)) (qs : List Question) (leader : CheckKind)
    (q : Question) (l : Loaded) → IsIn q (questions_of a c) → is_same_text c leader (question_kind q) ≡ true
    → IsLoadedFrom (asked_for c files qs leader) l → HasItsProbe l.port q
has_its_probe a c files qs leader (question.Check x) l i s h = check_has_probe a c files qs leader x l i s h
has_its_probe a c files qs leader (question.Target t) l i s h = tt
has_its_probe a c files qs leader (question.Zb z) l i s h = tt

abbrev pub IsFitFor : Config → List LoadedText → Question → Type 0
IsFitFor c texts q = (l : Loaded) × (text_among c (question_kind q) texts ≡ Some l) × IsFit c.nret q l

fit_for : (a : Asking) (c : Config) (files : List (List ℕ)) (texts : List LoadedText)
    → AreLoadedInTurn (asked_for c files (questions_of a c)) (leaders c (questions_of a c)) texts → c.nret ≤ 2
    → (q : Question) → IsQuestion c.nret q → IsIn q (questions_of a c) → IsFitFor c texts q
fit_for a c files texts h n q k i =
    let qs = questions_of a c in
    let kind = question_kind q in
    let r : HasText c (asked_for c files qs) kind texts =
    has_text c (asked_for c files qs) kind texts h.each
    (ap (λ kinds. has_same c kinds kind) h.kinds_are ∙ led c qs [] q i) in (
      r.text.loaded,
      r.there,
      record {
        names = r.loaded.loaded.lowered.named;
        graphic = names_graphic r.loaded.flat.decls r.loaded.flat.drivers r.loaded.flat.starts r.text.loaded.net
            r.text.loaded.names r.loaded.flat.lawful.kept r.loaded.loaded.lowered;
        port = r.loaded.loaded.nodes;
        many = r.loaded.loaded.many;
        lawful = k;
        few = n;
        probe = has_its_probe a c files qs r.text.kind q r.text.loaded i r.same r.loaded;
        inputs = r.loaded.few.inputs;
        state = r.loaded.few.state;
      },
    )

-- a case is ready
pub ready : (a : Asking) (c : Config) (files : List (List ℕ)) (qs : List Question) (texts : List LoadedText)
    → qs ≡ questions_of a c → AreLoadedInTurn (asked_for c files qs) (leaders c qs) texts → InRange a
    → HasLawfulChecks c → c.nret ≤ 2 → IsReady (record { config = c; questions = qs; texts = texts })
ready a c files qs texts e h r l n =
    let all = questions_of a c in
    let loaded = subst (λ (xs : List Question). AreLoadedInTurn (asked_for c files xs) (leaders c xs) texts) e h in
    subst (AllByRecursion (IsFitFor c texts)) (sym e)
    (all_in (IsQuestion c.nret) (IsFitFor c texts) all all (questions_lawful a c r l) (λ q i. i)
    (fit_for a c files texts loaded n))

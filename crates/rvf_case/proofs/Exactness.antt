-- What an answer means, and that the same files give no other.
use Rattle.std.proofs.Common.{◌≡◌, ℕ, true, List, [], ◌∷◌, ◌++◌, Some, None, Result, Ok, Err, refl, sym, ◌∙◌, ap}
use Rattle.std.proofs.Common.{subst, true≢false}
use Rattle.std.specs.Prelude.{map, slice_get}
use Rattle.std.specs.List.{AllByRecursion}
use Rattle.fv_base.specs.Outside.{Names, Told}
use Rattle.fv_base.specs.declared.event.Event.{Event}
use Rattle.ck_cfg.specs.declared.config.Config.{Config}
use Rattle.ck_cfg.specs.declared.fault.CfgFault.{CfgFault}
use Rattle.ck_cfg.specs.declared.kind.CheckKind.{CheckKind}
use Rattle.ck_cfg.specs.Reading.{config_of}
use Rattle.rvf_load.specs.Loads.{Answers, Asked, IsLoadedFrom, IsRefused, IsSame, IsTheRefusal, NoneRefuses}
use Rattle.rvf_load.specs.declared.fault.LoadFault.{LoadFault}
use Rattle.rvf_load.specs.declared.fault.LoadFault.TheVariants as load
use Rattle.rvf_load.specs.declared.loaded.Loaded.{Loaded}
use Rattle.rvf_case.specs.Cases.{Alike, AreLoaded, AreRead, Comes, IsCase, IsCause, IsConfigured, IsMisconfigured}
use Rattle.rvf_case.specs.Cases.{IsNext, IsRefusedSource, IsRefusedText, Request, Seen, configuration, names_in}
use Rattle.rvf_case.specs.Cases.{IsUnnamed, verilog, questions_in}
use Rattle.rvf_case.specs.Askings.{IsThere, One, has_check}
use Rattle.rvf_case.specs.Hearing.{Answered, HeardMore, Hears, all_gave, before_refused, cause_reads}
use Rattle.rvf_case.specs.Steps.{AreLoadedInTurn, IsNotHeavy, Prepares, Stands, StopsAt}
use Rattle.rvf_case.specs.Texts.{asked_for, leaders, with_text}
use Rattle.rvf_case.specs.declared.case.Case.{Case}
use Rattle.rvf_case.specs.declared.case.LoadedText.{LoadedText}
use Rattle.rvf_case.specs.declared.refusal.Refusal.{Refusal}
use Rattle.rvf_case.specs.declared.refusal.Refusal.TheVariants as refusal
use Rattle.ck_ask.specs.Questions.{question_name}

-- ---- texts that are loaded one after the other

-- no part refuses the texts of these kinds
abbrev pub NoneIsRefused : (CheckKind → Asked) → List CheckKind → Type 0
NoneIsRefused ask kinds = AllByRecursion (λ kind. NoneRefuses (ask kind)) kinds

-- texts of kinds are loaded; and no part refuses one
abbrev pub AreOf : (CheckKind → Asked) → List LoadedText → Type 0
AreOf ask texts = AllByRecursion (λ x. IsLoadedFrom (ask x.kind) x.loaded) texts

abbrev pub AreAnswers : (CheckKind → Asked) → List LoadedText → Type 0
AreAnswers ask texts = AllByRecursion (λ x. Answers (ask x.kind) (Ok x.loaded)) texts

-- those before a kind aren't refused, and its text is
pub record Stops (ask : CheckKind → Asked) (kinds : List CheckKind) (kind : CheckKind) (f : LoadFault) : Type 0 where
  pub before : List CheckKind
  pub behind : List CheckKind
  pub order : kinds ≡ before ++ kind ∷ behind
  pub unrefused : NoneIsRefused ask before
  pub refused : IsRefused (ask kind) f

same_head : {X : Type 0} (x y : X) (xs ys : List X) → x ∷ xs ≡ y ∷ ys → x ≡ y
same_head x y xs ys e = cc

same_tail : {X : Type 0} (x y : X) (xs ys : List X) → x ∷ xs ≡ y ∷ ys → xs ≡ ys
same_tail x y xs ys e = cc

no_cons : {X : Type 0} (x : X) (xs : List X) → [] ≡ x ∷ xs → ⊥
no_cons x xs e = cc

module _ (ask : CheckKind → Asked) where
  pub are_of : (texts : List LoadedText) → AreAnswers ask texts → AreOf ask texts
  are_of [] a = tt
  are_of (t ∷ ts) a = (a.0.0, are_of ts a.1)

  unrefused_of : (texts : List LoadedText) → AreAnswers ask texts → NoneIsRefused ask (map (λ x. x.kind) texts)
  unrefused_of [] a = tt
  unrefused_of (t ∷ ts) a = (a.0.1, unrefused_of ts a.1)

  -- no text that is loaded is refused
  none_refused : (texts : List LoadedText) (before : List CheckKind) (kind : CheckKind) (behind : List CheckKind)
      (f : LoadFault) → AreAnswers ask texts → map (λ x. x.kind) texts ≡ before ++ kind ∷ behind
      → IsRefused (ask kind) f → ⊥
  none_refused [] [] kind behind f a e h = no_cons kind behind e
  none_refused [] (b ∷ bs) kind behind f a e h = no_cons b (bs ++ kind ∷ behind) e
  none_refused (t ∷ ts) [] kind behind f a e h =
      let same : kind ≡ t.kind = sym (same_head t.kind kind (map (λ x. x.kind) ts) behind e) in
      a.0.1 f (subst (λ k. IsRefused (ask k) f) same h)
  none_refused (t ∷ ts) (b ∷ bs) kind behind f a e h =
      none_refused ts bs kind behind f a.1
      (same_tail t.kind b (map (λ x. x.kind) ts) (bs ++ kind ∷ behind) e) h

  -- no text that is refused is loaded
  none_loaded : (texts : List LoadedText) (before : List CheckKind) (kind : CheckKind) (behind : List CheckKind)
      → AreOf ask texts → map (λ x. x.kind) texts ≡ before ++ kind ∷ behind
      → ((l : Loaded) → IsLoadedFrom (ask kind) l → ⊥) → ⊥
  none_loaded [] [] kind behind a e h = no_cons kind behind e
  none_loaded [] (b ∷ bs) kind behind a e h = no_cons b (bs ++ kind ∷ behind) e
  none_loaded (t ∷ ts) [] kind behind a e h =
      let same : t.kind ≡ kind = same_head t.kind kind (map (λ x. x.kind) ts) behind e in
      h t.loaded (subst (λ k. IsLoadedFrom (ask k) t.loaded) same a.0)
  none_loaded (t ∷ ts) (b ∷ bs) kind behind a e h =
      none_loaded ts bs kind behind a.1 (same_tail t.kind b (map (λ x. x.kind) ts) (bs ++ kind ∷ behind) e) h

  -- of two texts that are refused behind others that aren't each is the other
  one_stop : (xs : List LoadedText) (ys : List CheckKind) (k other : CheckKind) (behind rest : List CheckKind)
      (f g : LoadFault) → AreAnswers ask xs → NoneIsRefused ask ys
      → map (λ x. x.kind) xs ++ k ∷ behind ≡ ys ++ other ∷ rest
      → IsTheRefusal (ask k) f → IsRefused (ask other) g → (other ≡ k) × IsSame f g
  one_stop [] [] k other behind rest f g a b e h r =
      let same : other ≡ k = sym (same_head k other behind rest e) in
      (same, h.only g (subst (λ k. IsRefused (ask k) g) same r))
  one_stop [] (y ∷ ys) k other behind rest f g a b e h r =
      let same : k ≡ y = same_head k y behind (ys ++ other ∷ rest) e in
      absurd (b.0 f (subst (λ k. IsRefused (ask k) f) same h.is))
  one_stop (x ∷ xs) [] k other behind rest f g a b e h r =
      let same : other ≡ x.kind = sym (same_head x.kind other (map (λ x. x.kind) xs ++ k ∷ behind) rest e) in
      absurd (a.0.1 g (subst (λ k. IsRefused (ask k) g) same r))
  one_stop (x ∷ xs) (y ∷ ys) k other behind rest f g a b e h r =
      one_stop xs ys k other behind rest f g a.1 b.1
      (same_tail x.kind y (map (λ x. x.kind) xs ++ k ∷ behind) (ys ++ other ∷ rest) e) h r

  loaded_never_stops : (kinds : List CheckKind) (texts : List LoadedText) (kind : CheckKind) (f : LoadFault)
      → AreLoadedInTurn ask kinds texts → Stops ask kinds kind f → ⊥
  loaded_never_stops kinds texts kind f a h =
      none_refused texts h.before kind h.behind f a.each (a.kinds_are ∙ h.order) h.refused

  stopped_never_loads : (kinds : List CheckKind) (texts : List LoadedText) (kind : CheckKind) (f : LoadFault)
      → StopsAt ask kinds kind f → map (λ x. x.kind) texts ≡ kinds → AreOf ask texts → ⊥
  stopped_never_loads kinds texts kind f h e a =
      none_loaded texts (map (λ x. x.kind) h.before) kind h.behind a (e ∙ h.order) h.refused.none

  stops_once : (kinds : List CheckKind) (kind other : CheckKind) (f g : LoadFault) → StopsAt ask kinds kind f
      → Stops ask kinds other g → (other ≡ kind) × IsSame f g
  stops_once kinds kind other f g h k =
      one_stop h.before k.before kind other h.behind k.behind f g h.each k.unrefused (sym h.order ∙ k.order)
      h.refused k.refused

-- ---- what an answer means

case_said : (r : Request) (held : Told) (events : List Event) (case : Case) → Stands r held events (Ok case)
    → (came : IsCase r held case) × (events ≡ all_gave r came.configured.bytes (names_in r case.config) came.files)
case_said r held events case h =
    let back = sym h.loads.config_is in
    let asked = questions_in r h.config in (
      record {
        configured = record {
          bytes = h.configured.bytes;
          gives = h.configured.gives;
          config_is = h.configured.config_is ∙ ap (λ c. Ok c) back;
          there = subst (IsThere r.asking) back h.configured.there;
        };
        questions_are = h.loads.questions_are ∙ ap (questions_in r) back;
        files = h.files;
        read = subst (λ c. AreRead held (names_in r c) h.files) back h.read;
        loaded = subst (λ c. AreLoaded c h.files case.questions case.texts) back
            (subst (λ qs. AreLoaded h.config h.files qs case.texts) (sym h.loads.questions_are) (record {
              kinds_are = h.loads.loaded.kinds_are;
              each = are_of (asked_for h.config h.files asked) case.texts h.loads.loaded.each;
              unrefused = subst (λ kinds. NoneIsRefused (asked_for h.config h.files asked) kinds)
                  h.loads.loaded.kinds_are
                  (unrefused_of (asked_for h.config h.files asked) case.texts h.loads.loaded.each);
            }));
      },
      h.events_are ∙ ap (λ c. all_gave r h.configured.bytes (names_in r c) h.files) back,
    )

abbrev refused_text : (r : Request) (held : Told) (c : Config) (files : List (List ℕ)) (kind : CheckKind)
    (f : LoadFault) → IsConfigured r held c → AreRead held (names_in r c) files
    → StopsAt (asked_for c files (questions_in r c)) (leaders c (questions_in r c)) kind f
    → IsRefusedText r held c kind f
refused_text r held c files kind f k read h = record {
  configured = k;
  files = files;
  read = read;
  before = map (λ x. x.kind) h.before;
  behind = h.behind;
  order = h.order;
  unrefused = unrefused_of (asked_for c files (questions_in r c)) h.before h.each;
  refused = h.refused.is;
}

source_said : (f : LoadFault) (r : Request) (seen : Seen) (names : List (List ℕ)) (events : List Event)
    → IsNotHeavy f → (h : IsRefusedSource r seen.held f names)
    → events ≡ before_refused r seen.held h.config h.kind f h.refused
    → (came : IsCause r seen (refusal.Source f names)) × (events ≡ cause_reads r seen (refusal.Source f names) came)
source_said (load.Text f) r seen names events n h e = (h, e)
source_said (load.Elab f) r seen names events n h e = (h, e)
source_said (load.Flow f) r seen names events n h e = (h, e)
source_said (load.Heavy place number) r seen names events n h e = absurd n
source_said (load.Port f) r seen names events n h e = (h, e)
source_said load.Memory r seen names events n h e = (h, e)

-- what an answer means, and what was read for it
pub said : (result : Result Case Refusal) (r : Request) (seen : Seen) (events : List Event)
    → Prepares r seen events result → (came : Comes r seen result) × Hears r seen result came events
said (Ok case) r seen events h = case_said r seen.held events case h
said (Err refusal.Memory) r seen events h = (tt, h)
said (Err (refusal.Absent name)) r seen events h = h
said (Err (refusal.Unread name)) r seen events h = h
said (Err (refusal.Config f)) r seen events h = h
said (Err (refusal.NoCheck name)) r seen events h = h
said (Err (refusal.Source f names)) r seen events h =
    source_said f r seen names events h.loads.0.light (record {
      config = h.config;
      kind = h.loads.0.kind;
      refused = refused_text r seen.held h.config h.files h.loads.0.kind f h.configured h.read h.loads.0.stops;
      names_are = h.loads.1;
    }) h.events_are
said (Err (refusal.Heavy name number)) r seen events h = (
  record {
    config = h.config;
    kind = h.loads.kind;
    place = h.loads.place;
    refused = refused_text r seen.held h.config h.files h.loads.kind (load.Heavy h.loads.place number) h.configured
        h.read h.loads.stops;
    question = h.loads.named.question;
    there = h.loads.named.there;
    name_is = h.loads.named.name_is;
  },
  h.events_are,
)

pub answered : (result : Result Case Refusal) (r : Request) (seen : Seen) (before now : List Event)
    → HeardMore before now (λ events. Prepares r seen events result) → Answered r seen before now result
answered result r seen before now h =
    let both = said result r seen h.events h.are in
    record { came = both.0; heard = record { events = h.events; behind = h.behind; are = both.1 } }

-- ---- that the same files give no other

same_some : {X : Type 0} (x y : X) → Some x ≡ Some y → x ≡ y
same_some x y e = cc

some_or_none : {X : Type 0} (x : X) → Some x ≡ None → ⊥
some_or_none x e = cc

same_ok : {X E : Type 0} (x y : X) → ◌≡◌ {A = Result X E} (Ok x) (Ok y) → x ≡ y
same_ok x y e = cc

same_err : {X E : Type 0} (x y : E) → ◌≡◌ {A = Result X E} (Err x) (Err y) → x ≡ y
same_err x y e = cc

same_one : (x y : List ℕ) → One x ≡ One y → x ≡ y
same_one x y e = cc

ok_or_err : {X E : Type 0} (x : X) (y : E) → ◌≡◌ {A = Result X E} (Ok x) (Err y) → ⊥
ok_or_err x y e = cc

source_of_cause : (f : LoadFault) (r : Request) (seen : Seen) (names : List (List ℕ))
    → IsCause r seen (refusal.Source f names) → IsRefusedSource r seen.held f names
source_of_cause (load.Text f) r seen names h = h
source_of_cause (load.Elab f) r seen names h = h
source_of_cause (load.Flow f) r seen names h = h
source_of_cause (load.Heavy place number) r seen names h = absurd h
source_of_cause (load.Port f) r seen names h = h
source_of_cause load.Memory r seen names h = h

not_heavy : (f : LoadFault) (r : Request) (seen : Seen) (names : List (List ℕ))
    → IsCause r seen (refusal.Source f names) → IsNotHeavy f
not_heavy (load.Text f) r seen names h = tt
not_heavy (load.Elab f) r seen names h = tt
not_heavy (load.Flow f) r seen names h = tt
not_heavy (load.Heavy place number) r seen names h = absurd h
not_heavy (load.Port f) r seen names h = tt
not_heavy load.Memory r seen names h = tt

-- a design that is too heavy isn't refused otherwise
heavy_alone : (f : LoadFault) (place number : ℕ) → IsNotHeavy f → IsSame f (load.Heavy place number) → ⊥
heavy_alone (load.Text f) place number n e = cc
heavy_alone (load.Elab f) place number n e = cc
heavy_alone (load.Flow f) place number n e = cc
heavy_alone (load.Heavy p k) place number n e = n
heavy_alone (load.Port f) place number n e = cc
heavy_alone load.Memory place number n e = cc

heavy_is_not : (f : LoadFault) (place number : ℕ) → IsNotHeavy f → IsSame (load.Heavy place number) f → ⊥
heavy_is_not (load.Text f) place number n e = cc
heavy_is_not (load.Elab f) place number n e = cc
heavy_is_not (load.Flow f) place number n e = cc
heavy_is_not (load.Heavy p k) place number n e = n
heavy_is_not (load.Port f) place number n e = cc
heavy_is_not load.Memory place number n e = cc

same_heavy : (place number p n : ℕ) → IsSame (load.Heavy place number) (load.Heavy p n) → (p ≡ place) × (n ≡ number)
same_heavy place number p n e = (first place number p n e, second place number p n e) where
  first : (place number p n : ℕ) → load.Heavy p n ≡ load.Heavy place number → p ≡ place
  first place number p n e = cc

  second : (place number p n : ℕ) → load.Heavy p n ≡ load.Heavy place number → n ≡ number
  second place number p n e = cc

module _ (r : Request) (names : Names) (events : List Event) where
  -- configuration and files are read
  record IsRead : Type 0 where
    config : Config
    configured : IsConfigured r (Some names) config
    files : List (List ℕ)
    read : AreRead (Some names) (names_in r config) files

  one_config : (c d : Config) → IsConfigured r (Some names) c → IsConfigured r (Some names) d → c ≡ d
  one_config c d h k =
      let b : h.bytes ≡ k.bytes = same_some h.bytes k.bytes (sym h.gives ∙ k.gives) in
      same_ok c d (sym h.config_is ∙ ap config_of b ∙ k.config_is)

  one_fault : (f g : CfgFault) → IsMisconfigured r (Some names) f → IsMisconfigured r (Some names) g → g ≡ f
  one_fault f g h k =
      let b : k.bytes ≡ h.bytes = same_some k.bytes h.bytes (sym k.gives ∙ h.gives) in
      same_err g f (sym k.refused ∙ ap config_of b ∙ h.refused)

  no_fault : (c : Config) (f : CfgFault) → IsConfigured r (Some names) c → IsMisconfigured r (Some names) f → ⊥
  no_fault c f h k =
      let b : h.bytes ≡ k.bytes = same_some h.bytes k.bytes (sym h.gives ∙ k.gives) in
      ok_or_err c f (sym h.config_is ∙ ap config_of b ∙ k.refused)

  no_check : (c : Config) (name : List ℕ) → IsConfigured r (Some names) c → IsUnnamed r (Some names) name → ⊥
  no_check c name h k =
      let b : h.bytes ≡ k.bytes = same_some h.bytes k.bytes (sym h.gives ∙ k.gives) in
      let e : c ≡ k.config = same_ok c k.config (sym h.config_is ∙ ap config_of b ∙ k.config_is) in
      let there : has_check name c ≡ true = subst (λ a. IsThere a c) k.asked h.there in
      true≢false (sym there ∙ ap (has_check name) e ∙ k.none)

  no_check_fault : (name : List ℕ) (f : CfgFault) → IsUnnamed r (Some names) name → IsMisconfigured r (Some names) f
      → ⊥
  no_check_fault name f h k =
      let b : h.bytes ≡ k.bytes = same_some h.bytes k.bytes (sym h.gives ∙ k.gives) in
      ok_or_err h.config f (sym h.config_is ∙ ap config_of b ∙ k.refused)

  one_check : (name other : List ℕ) → IsUnnamed r (Some names) name → IsUnnamed r (Some names) other → other ≡ name
  one_check name other h k = same_one other name (sym k.asked ∙ h.asked)

  one_reading : (ns fs gs : List (List ℕ)) → AreRead (Some names) ns fs → AreRead (Some names) ns gs → fs ≡ gs
  one_reading [] [] [] h k = refl
  one_reading [] [] (g ∷ gs) h k = absurd k
  one_reading [] (f ∷ fs) gs h k = absurd h
  one_reading (n ∷ ns) [] gs h k = absurd h
  one_reading (n ∷ ns) (f ∷ fs) [] h k = absurd k
  one_reading (n ∷ ns) (f ∷ fs) (g ∷ gs) h k =
      let e : f ≡ g = same_some f g (sym h.0 ∙ k.0) in
      let m : fs ≡ gs = one_reading ns fs gs h.1 k.1 in
      cc

  held_or_not : (m n bytes : List ℕ) → m ≡ n → names n ≡ Some bytes → names m ≡ None → ⊥
  held_or_not m n bytes e h k = some_or_none bytes (sym h ∙ ap names (sym e) ∙ k)

  -- of two lists of files that are read, each with a file behind them that isn't held
  one_lacking : (xs ys more rest fs gs : List (List ℕ)) (m n : List ℕ) → xs ++ m ∷ more ≡ ys ++ n ∷ rest
      → AreRead (Some names) xs fs → AreRead (Some names) ys gs → names m ≡ None → names n ≡ None → n ≡ m
  one_lacking [] [] more rest fs gs m n e h k p q = sym (same_head m n more rest e)
  one_lacking [] (y ∷ ys) more rest fs [] m n e h k p q = absurd k
  one_lacking [] (y ∷ ys) more rest fs (g ∷ gs) m n e h k p q =
      absurd (held_or_not m y g (same_head m y more (ys ++ n ∷ rest) e) k.0 p)
  one_lacking (x ∷ xs) [] more rest [] gs m n e h k p q = absurd h
  one_lacking (x ∷ xs) [] more rest (f ∷ fs) gs m n e h k p q =
      absurd (held_or_not n x f (sym (same_head x n (xs ++ m ∷ more) rest e)) h.0 q)
  one_lacking (x ∷ xs) (y ∷ ys) more rest [] gs m n e h k p q = absurd h
  one_lacking (x ∷ xs) (y ∷ ys) more rest (f ∷ fs) [] m n e h k p q = absurd k
  one_lacking (x ∷ xs) (y ∷ ys) more rest (f ∷ fs) (g ∷ gs) m n e h k p q =
      one_lacking xs ys more rest fs gs m n (same_tail x y (xs ++ m ∷ more) (ys ++ n ∷ rest) e) h.1 k.1 p q

  all_held : (ns fs before behind : List (List ℕ)) (m : List ℕ) → AreRead (Some names) ns fs
      → ns ≡ before ++ m ∷ behind → names m ≡ None → ⊥
  all_held [] fs [] behind m h e p = no_cons m behind e
  all_held [] fs (b ∷ before) behind m h e p = no_cons b (before ++ m ∷ behind) e
  all_held (n ∷ ns) [] before behind m h e p = h
  all_held (n ∷ ns) (f ∷ fs) [] behind m h e p = held_or_not m n f (sym (same_head n m ns behind e)) h.0 p
  all_held (n ∷ ns) (f ∷ fs) (b ∷ before) behind m h e p =
      all_held ns fs before behind m h.1 (same_tail n b ns (before ++ m ∷ behind) e) p

  -- the file of the configuration is held
  configured_is_held : (m : List ℕ) (c : Config) → m ≡ r.cfg → names m ≡ None → IsConfigured r (Some names) c → ⊥
  configured_is_held m c e p k = held_or_not m r.cfg k.bytes e k.gives p

  one_absent : (m n : List ℕ) → IsNext r (Some names) m → IsNext r (Some names) n → names m ≡ None → names n ≡ None
      → n ≡ m
  one_absent m n (configuration e) (configuration d) p q = d ∙ sym e
  one_absent m n (configuration e) (verilog d k xs more fs o h) p q = absurd (configured_is_held m d e p k)
  one_absent m n (verilog c k xs more fs o h) (configuration d) p q = absurd (configured_is_held n c d q k)
  one_absent m n (verilog c k xs more fs o h) (verilog d l ys rest gs u i) p q =
      one_lacking xs ys more rest fs gs m n (sym o ∙ ap (names_in r) (one_config c d k l) ∙ u) h i p q

  no_absent : (m : List ℕ) → IsNext r (Some names) m → names m ≡ None → IsRead → ⊥
  no_absent m (configuration e) p a = configured_is_held m a.config e p a.configured
  no_absent m (verilog c k xs more fs o h) p a =
      all_held (names_in r a.config) a.files xs more m a.read
      (ap (names_in r) (one_config a.config c a.configured k) ∙ o) p

  absent_or_fault : (m : List ℕ) (f : CfgFault) → IsNext r (Some names) m → names m ≡ None
      → IsMisconfigured r (Some names) f → ⊥
  absent_or_fault m f (configuration e) p k = held_or_not m r.cfg k.bytes e k.gives p
  absent_or_fault m f (verilog c h xs more fs o i) p k = no_fault c f h k

  absent_or_check : (m n : List ℕ) → IsNext r (Some names) m → names m ≡ None → IsUnnamed r (Some names) n → ⊥
  absent_or_check m n (configuration e) p k = held_or_not m r.cfg k.bytes e k.gives p
  absent_or_check m n (verilog c h xs more fs o i) p k = no_check c n h k

  abbrev text_read : (c : Config) (kind : CheckKind) (f : LoadFault) → IsRefusedText r (Some names) c kind f → IsRead
  text_read c kind f h = record { config = c; configured = h.configured; files = h.files; read = h.read }

  abbrev case_read : (case : Case) → IsCase r (Some names) case → IsRead
  case_read case h = record { config = case.config; configured = h.configured; files = h.files; read = h.read }

  abbrev stands_read : (result : Result Case Refusal) → Stands r (Some names) events result → IsRead
  stands_read result h = record { config = h.config; configured = h.configured; files = h.files; read = h.read }

  -- what is asked of the texts of this configuration and these files
  abbrev ask_here : IsRead → CheckKind → Asked
  ask_here a = asked_for a.config a.files (questions_in r a.config)

  abbrev leaders_here : IsRead → List CheckKind
  leaders_here a = leaders a.config (questions_in r a.config)

  -- what another answer says, by this configuration and these files
  stops_here : (a : IsRead) (c : Config) (kind : CheckKind) (f : LoadFault) → IsRefusedText r (Some names) c kind f
      → Stops (ask_here a) (leaders_here a) kind f
  stops_here a c kind f h =
      let e : c ≡ a.config = one_config c a.config h.configured a.configured in
      let k : IsRefusedText r (Some names) a.config kind f =
      subst (λ c. IsRefusedText r (Some names) c kind f) e h in
      let g : k.files ≡ a.files = one_reading (names_in r a.config) k.files a.files k.read a.read in
      subst (λ fs. Stops (asked_for a.config fs (questions_in r a.config)) (leaders_here a) kind f) g (record {
        before = k.before;
        behind = k.behind;
        order = k.order;
        unrefused = k.unrefused;
        refused = k.refused;
      })

  loads_here : (a : IsRead) (case : Case) → IsCase r (Some names) case
      → AreLoaded a.config a.files (questions_in r a.config) case.texts
  loads_here a case h =
      let e : case.config ≡ a.config = one_config case.config a.config h.configured a.configured in
      let k : AreLoaded a.config h.files (questions_in r a.config) case.texts =
      subst (λ c. AreLoaded c h.files (questions_in r c) case.texts) e
      (subst (λ qs. AreLoaded case.config h.files qs case.texts) h.questions_are h.loaded) in
      let i : AreRead (Some names) (names_in r a.config) h.files =
      subst (λ c. AreRead (Some names) (names_in r c) h.files) e h.read in
      let g : h.files ≡ a.files = one_reading (names_in r a.config) h.files a.files i a.read in
      subst (λ fs. AreLoaded a.config fs (questions_in r a.config) case.texts) g k

  module _ (misses misses_now faults faults_now : ℕ) where
    abbrev seen : Seen
    seen = record {
      held = Some names;
      misses = misses;
      misses_now = misses_now;
      faults = faults;
      faults_now = faults_now;
    }

    alike_case : (case : Case) (other : Result Case Refusal) → Stands r (Some names) events (Ok case) → Comes r seen other
        → Alike (Ok case) other
    alike_case case (Ok d) h k = tt
    alike_case case (Err refusal.Memory) h k = tt
    alike_case case (Err (refusal.Unread n)) h k = tt
    alike_case case (Err (refusal.Absent n)) h k = no_absent n k.next k.lacks (stands_read (Ok case) h)
    alike_case case (Err (refusal.Config f)) h k = no_fault h.config f h.configured k
    alike_case case (Err (refusal.NoCheck name)) h k = no_check h.config name h.configured k
    alike_case case (Err (refusal.Source f others)) h k =
        let s : IsRefusedSource r (Some names) f others = source_of_cause f r seen others k in
        loaded_never_stops (asked_for h.config h.files (questions_in r h.config)) (leaders h.config (questions_in r h.config)) case.texts s.kind f h.loads.loaded
        (stops_here (stands_read (Ok case) h) s.config s.kind f s.refused)
    alike_case case (Err (refusal.Heavy name number)) h k =
        loaded_never_stops (asked_for h.config h.files (questions_in r h.config)) (leaders h.config (questions_in r h.config)) case.texts k.kind
        (load.Heavy k.place number) h.loads.loaded
        (stops_here (stands_read (Ok case) h) k.config k.kind (load.Heavy k.place number) k.refused)

    alike_absent : (n : List ℕ) (other : Result Case Refusal) → IsNext r (Some names) n → names n ≡ None
        → Comes r seen other → Alike (Err (refusal.Absent n)) other
    alike_absent n (Ok d) h p k = no_absent n h p (case_read d k)
    alike_absent n (Err refusal.Memory) h p k = tt
    alike_absent n (Err (refusal.Unread m)) h p k = tt
    alike_absent n (Err (refusal.Absent m)) h p k = one_absent n m h k.next p k.lacks
    alike_absent n (Err (refusal.Config f)) h p k = absent_or_fault n f h p k
    alike_absent n (Err (refusal.NoCheck name)) h p k = absent_or_check n name h p k
    alike_absent n (Err (refusal.Source f others)) h p k =
        let s : IsRefusedSource r (Some names) f others = source_of_cause f r seen others k in
        no_absent n h p (text_read s.config s.kind f s.refused)
    alike_absent n (Err (refusal.Heavy name number)) h p k =
        no_absent n h p (text_read k.config k.kind (load.Heavy k.place number) k.refused)

    alike_config : (f : CfgFault) (other : Result Case Refusal) → IsMisconfigured r (Some names) f
        → Comes r seen other → Alike (Err (refusal.Config f)) other
    alike_config f (Ok d) h k = no_fault d.config f k.configured h
    alike_config f (Err refusal.Memory) h k = tt
    alike_config f (Err (refusal.Unread m)) h k = tt
    alike_config f (Err (refusal.Absent m)) h k = absent_or_fault m f k.next k.lacks h
    alike_config f (Err (refusal.Config g)) h k = one_fault f g h k
    alike_config f (Err (refusal.NoCheck name)) h k = no_check_fault name f k h
    alike_config f (Err (refusal.Source g others)) h k =
        let s : IsRefusedSource r (Some names) g others = source_of_cause g r seen others k in
        no_fault s.config f s.refused.configured h
    alike_config f (Err (refusal.Heavy name number)) h k = no_fault k.config f k.refused.configured h

    alike_check : (name : List ℕ) (other : Result Case Refusal) → IsUnnamed r (Some names) name → Comes r seen other
        → Alike (Err (refusal.NoCheck name)) other
    alike_check name (Ok d) h k = no_check d.config name k.configured h
    alike_check name (Err refusal.Memory) h k = tt
    alike_check name (Err (refusal.Unread m)) h k = tt
    alike_check name (Err (refusal.Absent m)) h k = absent_or_check m name k.next k.lacks h
    alike_check name (Err (refusal.Config f)) h k = no_check_fault name f h k
    alike_check name (Err (refusal.NoCheck other)) h k = one_check name other h k
    alike_check name (Err (refusal.Source f others)) h k =
        let s : IsRefusedSource r (Some names) f others = source_of_cause f r seen others k in
        no_check s.config name s.refused.configured h
    alike_check name (Err (refusal.Heavy other number)) h k = no_check k.config name k.refused.configured h

    alike_source : (f : LoadFault) (all : List (List ℕ)) (other : Result Case Refusal)
        → Stands r (Some names) events (Err (refusal.Source f all)) → Comes r seen other
        → Alike (Err (refusal.Source f all)) other
    alike_source f all (Ok d) h k =
        let l : AreLoaded h.config h.files (questions_in r h.config) d.texts =
        loads_here (stands_read (Err (refusal.Source f all)) h) d k in
        stopped_never_loads (asked_for h.config h.files (questions_in r h.config)) (leaders h.config (questions_in r h.config)) d.texts h.loads.0.kind f h.loads.0.stops
        l.kinds_are l.each
    alike_source f all (Err refusal.Memory) h k = tt
    alike_source f all (Err (refusal.Unread m)) h k = tt
    alike_source f all (Err (refusal.Absent m)) h k =
        no_absent m k.next k.lacks (stands_read (Err (refusal.Source f all)) h)
    alike_source f all (Err (refusal.Config g)) h k = no_fault h.config g h.configured k
    alike_source f all (Err (refusal.NoCheck name)) h k = no_check h.config name h.configured k
    alike_source f all (Err (refusal.Source g others)) h k =
        let s : IsRefusedSource r (Some names) g others = source_of_cause g r seen others k in (
          (stops_once (asked_for h.config h.files (questions_in r h.config)) (leaders h.config (questions_in r h.config)) h.loads.0.kind s.kind f g h.loads.0.stops
              (stops_here (stands_read (Err (refusal.Source f all)) h) s.config s.kind g s.refused)).1,
          s.names_are
              ∙ ap (λ c. r.cfg ∷ names_in r c) (one_config s.config h.config s.refused.configured h.configured)
              ∙ sym h.loads.1,
        )
    alike_source f all (Err (refusal.Heavy name number)) h k =
        heavy_alone f k.place number h.loads.0.light
        (stops_once (asked_for h.config h.files (questions_in r h.config)) (leaders h.config (questions_in r h.config)) h.loads.0.kind k.kind f
        (load.Heavy k.place number) h.loads.0.stops
        (stops_here (stands_read (Err (refusal.Source f all)) h) k.config k.kind (load.Heavy k.place number)
        k.refused)).1

    alike_heavy : (name : List ℕ) (number : ℕ) (other : Result Case Refusal)
        → Stands r (Some names) events (Err (refusal.Heavy name number)) → Comes r seen other
        → Alike (Err (refusal.Heavy name number)) other
    alike_heavy name number (Ok d) h k =
        let l : AreLoaded h.config h.files (questions_in r h.config) d.texts =
        loads_here (stands_read (Err (refusal.Heavy name number)) h) d k in
        stopped_never_loads (asked_for h.config h.files (questions_in r h.config)) (leaders h.config (questions_in r h.config)) d.texts h.loads.kind
        (load.Heavy h.loads.place number) h.loads.stops l.kinds_are l.each
    alike_heavy name number (Err refusal.Memory) h k = tt
    alike_heavy name number (Err (refusal.Unread m)) h k = tt
    alike_heavy name number (Err (refusal.Absent m)) h k =
        no_absent m k.next k.lacks (stands_read (Err (refusal.Heavy name number)) h)
    alike_heavy name number (Err (refusal.Config g)) h k = no_fault h.config g h.configured k
    alike_heavy name number (Err (refusal.NoCheck other)) h k = no_check h.config other h.configured k
    alike_heavy name number (Err (refusal.Source g others)) h k =
        let s : IsRefusedSource r (Some names) g others = source_of_cause g r seen others k in
        heavy_is_not g h.loads.place number (not_heavy g r seen others k)
        (stops_once (asked_for h.config h.files (questions_in r h.config)) (leaders h.config (questions_in r h.config)) h.loads.kind s.kind
        (load.Heavy h.loads.place number) g h.loads.stops
        (stops_here (stands_read (Err (refusal.Heavy name number)) h) s.config s.kind g s.refused)).1
    alike_heavy name number (Err (refusal.Heavy m n)) h k =
        let o : (k.kind ≡ h.loads.kind) × IsSame (load.Heavy h.loads.place number) (load.Heavy k.place n) =
        stops_once (asked_for h.config h.files (questions_in r h.config)) (leaders h.config (questions_in r h.config)) h.loads.kind k.kind
        (load.Heavy h.loads.place number) (load.Heavy k.place n) h.loads.stops
        (stops_here (stands_read (Err (refusal.Heavy name number)) h) k.config k.kind (load.Heavy k.place n)
        k.refused) in
        let p : (k.place ≡ h.loads.place) × (n ≡ number) = same_heavy h.loads.place number k.place n o.1 in
        let e : k.config ≡ h.config = one_config k.config h.config k.refused.configured h.configured in
        let question : k.question ≡ h.loads.named.question =
        same_some k.question h.loads.named.question
        (sym k.there ∙ ap (λ c. slice_get (with_text c k.kind (questions_in r c)) k.place) e
        ∙ ap (λ kind. slice_get (with_text h.config kind (questions_in r h.config)) k.place) o.0
        ∙ ap (λ n. slice_get (with_text h.config h.loads.kind (questions_in r h.config)) n) p.0
        ∙ h.loads.named.there) in
        (k.name_is ∙ ap question_name question ∙ sym h.loads.named.name_is, p.1)

    pub alike : (result other : Result Case Refusal) → Prepares r seen events result → Comes r seen other
        → Alike result other
    alike (Ok case) other h k = alike_case case other h k
    alike (Err refusal.Memory) other h k = tt
    alike (Err (refusal.Unread name)) other h k = tt
    alike (Err (refusal.Absent name)) other h k = alike_absent name other h.0.next h.0.lacks k
    alike (Err (refusal.Config f)) other h k = alike_config f other h.0 k
    alike (Err (refusal.NoCheck name)) other h k = alike_check name other h.0 k
    alike (Err (refusal.Source f all)) other h k = alike_source f all other h k
    alike (Err (refusal.Heavy name number)) other h k = alike_heavy name number other h k

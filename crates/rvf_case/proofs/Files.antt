-- What is told of files that are read one after the other, and what was read.
use Rattle.std.proofs.Common.{◌≡◌, ℕ, ◌+◌, ◌<◌, ◌≤◌, List, [], ◌∷◌, ◌++◌, length, take, drop, get_or, Some, None}
use Rattle.std.proofs.Common.{Result, Ok, Err, refl, sym, ◌∙◌, ap, subst, append_assoc, arith}
use Rattle.std.proofs.lemmas.List.{take_all, take_more}
use Rattle.fv_base.specs.Outside.{Told, Lacks, ReadGives, Rose, SameFiles}
use Rattle.fv_base.specs.declared.event.Event.{Event}
use Rattle.fv_base.specs.declared.event.Event.TheVariants.{Gave, Lacked, Failed, Wrote, Put}
use Rattle.fv_base.specs.Events.{read_events}
use Rattle.fv_base.specs.declared.files.FileFault.{FileFault}
use Rattle.fv_base.specs.declared.files.FileFault.TheVariants as file
use Rattle.ck_cfg.specs.declared.config.Config.{Config}
use Rattle.ck_cfg.specs.declared.fault.CfgFault.{CfgFault}
use Rattle.ck_cfg.specs.declared.fault.CfgFault.TheVariants as cfg
use Rattle.ck_cfg.specs.Faults.{OrMemory}
use Rattle.ck_cfg.specs.Reading.{config_of}
use Rattle.rvf_case.specs.Cases.{AreRead, IsConfigured, Request, Seen, configuration, names_in, verilog, questions_in}
use Rattle.rvf_case.specs.Hearing.{AreReadOn, HeardMore, IsReadOn, all_gave, gave, named_by}
use Rattle.rvf_case.specs.Askings.{IsThere}
use Rattle.rvf_case.specs.Steps.{Becomes, Configures, Finds, Loads, Prepares, ReadsFile, ReadsFiles, Says, of_config}
use Rattle.rvf_case.specs.declared.case.Case.{Case}
use Rattle.rvf_case.specs.declared.refusal.Refusal.{Refusal}
use Rattle.rvf_case.specs.declared.refusal.Refusal.TheVariants as refusal
use Rattle.rvf_case.proofs.Next.{split_here}

pub same_in_turn : (a b c : Told) → SameFiles a b → SameFiles b c → SameFiles a c
same_in_turn None None None s t = tt
same_in_turn None None (Some h) s t = absurd t
same_in_turn None (Some g) c s t = absurd s
same_in_turn (Some f) None c s t = absurd s
same_in_turn (Some f) (Some g) None s t = absurd t
same_in_turn (Some f) (Some g) (Some h) s t = λ name. t name ∙ s name

gives_earlier : (a b : Told) (name bytes : List ℕ) → SameFiles a b → ReadGives b name bytes → ReadGives a name bytes
gives_earlier None b name bytes s g = tt
gives_earlier (Some f) None name bytes s g = absurd s
gives_earlier (Some f) (Some h) name bytes s g = sym (s name) ∙ g

lacks_earlier : (a b : Told) (name : List ℕ) → SameFiles a b → Lacks b name → Lacks a name
lacks_earlier None b name s l = tt
lacks_earlier (Some f) None name s l = absurd s
lacks_earlier (Some f) (Some h) name s l = sym (s name) ∙ l

rose_earlier : (first before now : ℕ) → first ≤ before → Rose before now → Rose first now
rose_earlier first before now earlier rose = omega arith

pub read_earlier : (a b : Told) (names files : List (List ℕ)) → SameFiles a b → AreRead b names files
    → AreRead a names files
read_earlier a b [] [] s r = tt
read_earlier a b [] (f ∷ fs) s r = absurd r
read_earlier a b (n ∷ ns) [] s r = absurd r
read_earlier a b (n ∷ ns) (f ∷ fs) s r = (gives_earlier a b n f s r.0, read_earlier a b ns fs s r.1)

-- one file more
pub read_more : (a b : Told) (names files : List (List ℕ)) (name bytes : List ℕ) → AreRead a names files
    → SameFiles a b → ReadGives b name bytes → AreRead a (names ++ name ∷ []) (files ++ bytes ∷ [])
read_more a b [] [] name bytes r s g = (gives_earlier a b name bytes s g, tt)
read_more a b [] (f ∷ fs) name bytes r s g = absurd r
read_more a b (n ∷ ns) [] name bytes r s g = absurd r
read_more a b (n ∷ ns) (f ∷ fs) name bytes r s g = (r.0, read_more a b ns fs name bytes r.1 s g)

-- the next file is read
pub next_read : (a b : Told) (names files new : List (List ℕ)) (i : ℕ) (name d bytes : List ℕ) → i < length names
    → name ≡ get_or names i d → AreRead a (take i names) files → SameFiles a b → ReadGives b name bytes
    → new ≡ files ++ bytes ∷ [] → AreRead a (take (i + 1) names) new
next_read a b names files new i name d bytes l e r s g n =
    let k : take i names ++ name ∷ [] ≡ take (i + 1) names =
    ap (λ m. take i names ++ m ∷ []) e ∙ sym (take_more names i d l) in
    subst (AreRead a (take (i + 1) names)) (sym n)
    (subst (λ ms. AreRead a ms (files ++ bytes ∷ [])) k (read_more a b (take i names) files name bytes r s g))

pub no_less : (a b c : ℕ) → a ≤ b → b ≤ c → a ≤ c
no_less a b c h k = omega arith

-- what is seen from a later moment on
abbrev pub seen_from : Seen → Told → ℕ → ℕ → Seen
seen_from seen held misses faults = record {
  held = held;
  misses = misses;
  misses_now = seen.misses_now;
  faults = faults;
  faults_now = seen.faults_now;
}

-- ---- what was read

-- what follows of it
pub heard_so : {before now : List Event} (P Q : List Event → Type 0) → HeardMore before now P
    → ((events : List Event) → P events → Q events) → HeardMore before now Q
heard_so P Q h f = record { events = h.events; behind = h.behind; are = f h.events h.are }

-- in two steps more
pub heard_both : (first before now events more : List Event) → before ≡ first ++ events → now ≡ before ++ more
    → now ≡ first ++ (events ++ more)
heard_both first before now events more p q = q ∙ ap (λ l. l ++ more) p ∙ append_assoc first events more

-- what follows of both
pub heard_behind : (first before now : List Event) (P Q R : List Event → Type 0) → HeardMore first before P
    → HeardMore before now Q → ((events more : List Event) → P events → Q more → R (events ++ more))
    → HeardMore first now R
heard_behind first before now P Q R p q f = record {
  events = p.events ++ q.events;
  behind = heard_both first before now p.events q.events p.behind q.behind;
  are = f p.events q.events p.are q.are;
}

gave-append : (names files more others : List (List ℕ)) (held : Told) → AreRead held names files
    → gave (names ++ more) (files ++ others) ≡ gave names files ++ gave more others
gave-append [] [] more others held r = refl
gave-append [] (f ∷ fs) more others held r = absurd r
gave-append (n ∷ ns) [] more others held r = absurd r
gave-append (n ∷ ns) (f ∷ fs) more others held r = ap (λ l. Gave n f ∷ l) (gave-append ns fs more others held r.1)

-- the next file gave bytes
pub heard_next : (held : Told) (names files new : List (List ℕ)) (i : ℕ) (name d bytes : List ℕ)
    (first before now events : List Event) → i < length names → name ≡ get_or names i d
    → AreRead held (take i names) files → new ≡ files ++ bytes ∷ [] → events ≡ Gave name bytes ∷ []
    → before ≡ first ++ gave (take i names) files → now ≡ before ++ events
    → now ≡ first ++ gave (take (i + 1) names) new
heard_next held names files new i name d bytes first before now events l e r n is p q =
    let k : take i names ++ name ∷ [] ≡ take (i + 1) names =
    ap (λ m. take i names ++ m ∷ []) e ∙ sym (take_more names i d l) in
    let one : gave (take i names) files ++ events ≡ gave (take (i + 1) names) new =
    ap (λ l. gave (take i names) files ++ l) is
    ∙ sym (gave-append (take i names) files (name ∷ []) (bytes ∷ []) held r)
    ∙ ap (λ ns. gave ns (files ++ bytes ∷ [])) k ∙ ap (λ fs. gave (take (i + 1) names) fs) (sym n) in
    heard_both first before now (gave (take i names) files) events p q ∙ ap (λ l. first ++ l) one

-- one more was read as far as it went
one_read_on : (name : List ℕ) (behind : List (List ℕ)) (events : List Event) → AreReadOn (name ∷ []) events
    → AreReadOn (name ∷ behind) events
one_read_on name behind [] h = tt
one_read_on name behind (Gave other bytes ∷ []) h = (h.0, tt)
one_read_on name behind (Gave other bytes ∷ (event ∷ events)) h = absurd h.1
one_read_on name behind (Lacked other ∷ events) h = h
one_read_on name behind (Failed other ∷ events) h = h
one_read_on name behind (Wrote other bytes ∷ events) h = absurd h
one_read_on name behind (Put bytes ∷ events) h = absurd h

-- and behind others that gave bytes
pub read_on_behind : (before rest files : List (List ℕ)) (events : List Event) (held : Told)
    → AreRead held before files → AreReadOn rest events → AreReadOn (before ++ rest) (gave before files ++ events)
read_on_behind [] rest [] events held r h = h
read_on_behind [] rest (f ∷ fs) events held r h = absurd r
read_on_behind (n ∷ ns) rest [] events held r h = absurd r
read_on_behind (n ∷ ns) rest (f ∷ fs) events held r h = (refl, read_on_behind ns rest fs events held r.1 h)

-- all of them gave bytes
pub all_read_on : (names files : List (List ℕ)) (held : Told) → AreRead held names files
    → AreReadOn names (gave names files)
all_read_on [] [] held r = tt
all_read_on [] (f ∷ fs) held r = absurd r
all_read_on (n ∷ ns) [] held r = absurd r
all_read_on (n ∷ ns) (f ∷ fs) held r = (refl, all_read_on ns fs held r.1)

-- ---- one file

pub reads_bytes : (name bytes text : List ℕ) (held : Told) → text ≡ bytes → ReadGives held name bytes
    → ReadGives held name text × (Gave name bytes ∷ [] ≡ Gave name text ∷ [])
reads_bytes name bytes text held is gives =
    (subst (ReadGives held name) (sym is) gives, ap (λ l. Gave name l ∷ []) (sym is))

-- a fault of the file
pub reads_fault : (f : Refusal) (fault : FileFault) (name : List ℕ) (seen : Seen) → Becomes f fault name
    → (fault ≡ file.Absent → Lacks seen.held name) → (fault ≡ file.Absent → Rose seen.misses seen.misses_now)
    → (fault ≡ file.Failed → Rose seen.faults seen.faults_now)
    → ReadsFile name seen (read_events name (Err fault)) (Err f)
reads_fault refusal.Memory file.Absent name seen b lacks missed failed = (refl, refl)
reads_fault refusal.Memory file.Failed name seen b lacks missed failed = (refl, refl)
reads_fault refusal.Memory file.Memory name seen b lacks missed failed = tt
reads_fault (refusal.Absent other) file.Absent name seen b lacks missed failed =
    (b, record { lacks = lacks refl; counted = missed refl }, refl)
reads_fault (refusal.Absent other) file.Failed name seen b lacks missed failed = absurd b
reads_fault (refusal.Absent other) file.Memory name seen b lacks missed failed = absurd b
reads_fault (refusal.Unread other) file.Absent name seen b lacks missed failed = absurd b
reads_fault (refusal.Unread other) file.Failed name seen b lacks missed failed = (b, failed refl, refl)
reads_fault (refusal.Unread other) file.Memory name seen b lacks missed failed = absurd b
reads_fault (refusal.Config f) fault name seen b lacks missed failed = absurd b
reads_fault (refusal.NoCheck n) fault name seen b lacks missed failed = absurd b
reads_fault (refusal.Source f names) fault name seen b lacks missed failed = absurd b
reads_fault (refusal.Heavy n number) fault name seen b lacks missed failed = absurd b

-- ---- several files

-- of several files one gave no bytes
stops_reading : (f : Refusal) (names before behind files : List (List ℕ)) (name : List ℕ) (seen : Seen)
    (held : Told) (misses faults : ℕ) (events : List Event) → names ≡ before ++ name ∷ behind
    → AreRead seen.held before files
    → SameFiles seen.held held → seen.misses ≤ misses → seen.faults ≤ faults
    → ReadsFile name (seen_from seen held misses faults) events (Err f)
    → ReadsFiles names seen (gave before files ++ events) (Err f)
stops_reading refusal.Memory names before behind files name seen held misses faults events o r s m n h =
    subst (λ ns. AreReadOn ns (gave before files ++ events)) (sym o)
    (read_on_behind before (name ∷ behind) files events seen.held r (one_read_on name behind events h))
stops_reading (refusal.Absent other) names before behind files name seen held misses faults events o r s m n h =
    let e = sym h.0 in (
      record {
        before = before;
        behind = behind;
        order = o ∙ ap (λ n. before ++ n ∷ behind) e;
        files = files;
        read = r;
        events_are = ap (λ l. gave before files ++ l) (h.2 ∙ ap (λ n. Lacked n ∷ []) e);
      },
      record {
        lacks = subst (Lacks seen.held) e (lacks_earlier seen.held held name s h.1.lacks);
        counted = rose_earlier seen.misses misses seen.misses_now m h.1.counted;
      },
    )
stops_reading (refusal.Unread other) names before behind files name seen held misses faults events o r s m n h = (
  record {
    before = before;
    behind = behind;
    order = o ∙ ap (λ n. before ++ n ∷ behind) (sym h.0);
    files = files;
    read = r;
    events_are = ap (λ l. gave before files ++ l) (h.2 ∙ ap (λ n. Failed n ∷ []) (sym h.0));
  },
  rose_earlier seen.faults faults seen.faults_now n h.1,
)
stops_reading f names before behind files name seen held misses faults events o r s m n h = absurd h

-- the next of several files gave no bytes
pub files_unread : (f : Refusal) (names files : List (List ℕ)) (i : ℕ) (name d : List ℕ) (seen : Seen)
    (held : Told) (misses faults : ℕ) (first before now : List Event) → i < length names → name ≡ get_or names i d
    → AreRead seen.held (take i names) files → SameFiles seen.held held → seen.misses ≤ misses → seen.faults ≤ faults
    → before ≡ first ++ gave (take i names) files
    → HeardMore before now (λ events. ReadsFile name (seen_from seen held misses faults) events (Err f))
    → HeardMore first now (λ events. ReadsFiles names seen events (Err f))
files_unread f names files i name d seen held misses faults first before now l e r s m n p h = record {
  events = gave (take i names) files ++ h.events;
  behind = heard_both first before now (gave (take i names) files) h.events p h.behind;
  are = stops_reading f names (take i names) (drop (i + 1) names) files name seen held misses faults h.events
      (split_here names i name d l e) r s m n h.are;
}

-- memory was wanted behind the next one
pub files_wanting : (names files : List (List ℕ)) (i : ℕ) (name d bytes : List ℕ) (seen : Seen)
    (first before now events : List Event) → i < length names → name ≡ get_or names i d
    → AreRead seen.held (take i names) files → events ≡ Gave name bytes ∷ []
    → before ≡ first ++ gave (take i names) files → now ≡ before ++ events
    → HeardMore first now (λ events. ReadsFiles names seen events (Err refusal.Memory))
files_wanting names files i name d bytes seen first before now events l e r is p q = record {
  events = gave (take i names) files ++ events;
  behind = heard_both first before now (gave (take i names) files) events p q;
  are = subst (λ l. AreReadOn names (gave (take i names) files ++ l)) (sym is)
      (subst (λ ns. AreReadOn ns (gave (take i names) files ++ Gave name bytes ∷ []))
      (sym (split_here names i name d l e))
      (read_on_behind (take i names) (name ∷ drop (i + 1) names) files (Gave name bytes ∷ []) seen.held r (refl, tt)));
}

-- all of several files gave bytes
pub files_read : (names files : List (List ℕ)) (i : ℕ) (seen : Seen) (first now : List Event) → length names ≤ i
    → AreRead seen.held (take i names) files → now ≡ first ++ gave (take i names) files
    → HeardMore first now (λ events. ReadsFiles names seen events (Ok files))
files_read names files i seen first now l r p =
    let all : take i names ≡ names = take_all i names l in
    record {
      events = gave names files;
      behind = p ∙ ap (λ ns. first ++ gave ns files) all;
      are = (subst (λ ns. AreRead seen.held ns files) all r, refl);
    }

-- the configuration that was read
pub configures : (c : Config) (name bytes text : List ℕ) (held : Told) (events : List Event)
    → ReadGives held name bytes × (events ≡ Gave name bytes ∷ []) → text ≡ bytes → config_of text ≡ Ok c
    → Says name held events (Ok c)
configures c name bytes text held events r same is = record {
  bytes = bytes;
  gives = r.0;
  says = ap config_of (sym same) ∙ is;
  events_are = r.1;
}

-- or why it is none
pub misconfigures : (f : CfgFault) (name bytes text : List ℕ) (seen : Seen) (events : List Event)
    → ReadsFile name seen events (Ok bytes) → text ≡ bytes → OrMemory f (config_of text ≡ Err f)
    → Configures name seen events (Err (of_config f))
misconfigures cfg.Memory name bytes text seen events r same is =
    subst (AreReadOn (name ∷ [])) (sym r.1) (refl, tt)
misconfigures f name bytes text seen events r same is = record {
  bytes = bytes;
  gives = r.0;
  says = ap config_of (sym same) ∙ is;
  events_are = r.1;
}

-- ---- all of it

abbrev pub is_configured : (r : Request) (held : Told) (events : List Event) (c : Config)
    → Says r.cfg held events (Ok c) → IsThere r.asking c → IsConfigured r held c
is_configured r held events c h there =
    record { bytes = h.bytes; gives = h.gives; config_is = h.says; there = there }

-- of the configuration and its files the first ones were read
pub one_first : (r : Request) (events : List Event) → AreReadOn (r.cfg ∷ []) events → IsReadOn r events
one_first r [] h = tt
one_first r (Gave name bytes ∷ []) h = (h.0, tt)
one_first r (Gave name bytes ∷ (event ∷ events)) h = absurd h.1
one_first r (Lacked name ∷ events) h = h
one_first r (Failed name ∷ events) h = h
one_first r (Wrote name bytes ∷ events) h = absurd h
one_first r (Put bytes ∷ events) h = absurd h

pub more_first : (r : Request) (c : Config) (bytes : List ℕ) (events : List Event) → config_of bytes ≡ Ok c
    → AreReadOn (names_in r c) events → IsReadOn r (Gave r.cfg bytes ∷ events)
more_first r c bytes events is h =
    (refl, subst (λ (said : Result Config CfgFault). AreReadOn (named_by r said) events) (sym is) h)

pub config_first : (r : Request) (held : Told) (c : Config) (events : List Event) → Says r.cfg held events (Ok c)
    → IsReadOn r events
config_first r held c events h = subst (IsReadOn r) (sym h.events_are) (more_first r c h.bytes [] h.says tt)

-- there is no configuration
pub configuration_stops : (f : Refusal) (r : Request) (seen : Seen) (events : List Event)
    → Configures r.cfg seen events (Err f) → Prepares r seen events (Err f)
configuration_stops refusal.Memory r seen events h = one_first r events h
configuration_stops (refusal.Absent other) r seen events h = (
  record {
    next = configuration h.0;
    lacks = subst (Lacks seen.held) (sym h.0) h.1.lacks;
    counted = h.1.counted;
  },
  h.2 ∙ ap (λ n. Lacked n ∷ []) (sym h.0),
)
configuration_stops (refusal.Unread other) r seen events h =
    (record { next = configuration h.0; counted = h.1 }, h.2 ∙ ap (λ n. Failed n ∷ []) (sym h.0))
configuration_stops (refusal.Config f) r seen events h =
    (record { bytes = h.bytes; gives = h.gives; refused = h.says }, h.events_are)
configuration_stops (refusal.NoCheck name) r seen events h = absurd h
configuration_stops (refusal.Source f names) r seen events h = absurd h
configuration_stops (refusal.Heavy name number) r seen events h = absurd h

-- the file of the configuration was read, and then more
pub behind_config : (r : Request) (seen : Seen) (c : Config) (says : List Event) (events : List Event)
    (h : Says r.cfg seen.held says (Ok c)) → says ++ events ≡ Gave r.cfg h.bytes ∷ events
behind_config r seen c says events h = ap (λ l. l ++ events) h.events_are

-- a check that is asked for isn't there
pub check_stops : (f : Refusal) (r : Request) (seen : Seen) (c : Config) (events : List Event)
    → Says r.cfg seen.held events (Ok c) → Finds r.asking c (Err f) → Prepares r seen events (Err f)
check_stops (refusal.NoCheck name) r seen c events k h = (
  record {
    bytes = k.bytes;
    gives = k.gives;
    config = c;
    config_is = k.says;
    asked = h.asked_is;
    none = h.none;
  },
  k.events_are,
)
check_stops refusal.Memory r seen c events k h = config_first r seen.held c events k
check_stops (refusal.Absent name) r seen c events k h = absurd h
check_stops (refusal.Unread name) r seen c events k h = absurd h
check_stops (refusal.Config f) r seen c events k h = absurd h
check_stops (refusal.Source f names) r seen c events k h = absurd h
check_stops (refusal.Heavy name number) r seen c events k h = absurd h

-- one of its files gave no bytes
pub files_stop : (f : Refusal) (r : Request) (seen : Seen) (c : Config) (held : Told) (misses faults : ℕ)
    (says events : List Event) (k : Says r.cfg seen.held says (Ok c)) → IsThere r.asking c → SameFiles seen.held held
    → seen.misses ≤ misses → seen.faults ≤ faults → ReadsFiles (names_in r c) (seen_from seen held misses faults) events (Err f)
    → Prepares r seen (says ++ events) (Err f)
files_stop refusal.Memory r seen c held misses faults says events k there s m n h =
    subst (IsReadOn r) (sym (behind_config r seen c says events k)) (more_first r c k.bytes events k.says h)
files_stop (refusal.Absent name) r seen c held misses faults says events k there s m n h = (
  record {
    next = verilog c (is_configured r seen.held says c k there) h.0.before h.0.behind h.0.files h.0.order
        (read_earlier seen.held held h.0.before h.0.files s h.0.read);
    lacks = lacks_earlier seen.held held name s h.1.lacks;
    counted = rose_earlier seen.misses misses seen.misses_now m h.1.counted;
  },
  behind_config r seen c says events k ∙ ap (λ l. Gave r.cfg k.bytes ∷ l) h.0.events_are,
)
files_stop (refusal.Unread name) r seen c held misses faults says events k there s m n h = (
  record {
    next = verilog c (is_configured r seen.held says c k there) h.0.before h.0.behind h.0.files h.0.order
        (read_earlier seen.held held h.0.before h.0.files s h.0.read);
    counted = rose_earlier seen.faults faults seen.faults_now n h.1;
  },
  behind_config r seen c says events k ∙ ap (λ l. Gave r.cfg k.bytes ∷ l) h.0.events_are,
)
files_stop (refusal.Config f) r seen c held misses faults says events k there s m n h = absurd h
files_stop (refusal.NoCheck name) r seen c held misses faults says events k there s m n h = absurd h
files_stop (refusal.Source f names) r seen c held misses faults says events k there s m n h = absurd h
files_stop (refusal.Heavy name number) r seen c held misses faults says events k there s m n h = absurd h

-- all files are read
stands_with : (result : Result Case Refusal) (r : Request) (seen : Seen) (c : Config) (files : List (List ℕ))
    (events : List Event) (k : IsConfigured r seen.held c) → AreRead seen.held (names_in r c) files
    → events ≡ all_gave r k.bytes (names_in r c) files
    → Loads (r.cfg ∷ names_in r c) c files (questions_in r c) result → Prepares r seen events result
stands_with (Ok case) r seen c files events k h e l =
    record { config = c; configured = k; files = files; read = h; loads = l; events_are = e }
stands_with (Err refusal.Memory) r seen c files events k h e l =
    subst (IsReadOn r) (sym e)
    (more_first r c k.bytes (gave (names_in r c) files) k.config_is (all_read_on (names_in r c) files seen.held h))
stands_with (Err (refusal.Absent name)) r seen c files events k h e l = absurd l
stands_with (Err (refusal.Unread name)) r seen c files events k h e l = absurd l
stands_with (Err (refusal.Config f)) r seen c files events k h e l = absurd l
stands_with (Err (refusal.NoCheck name)) r seen c files events k h e l = absurd l
stands_with (Err (refusal.Source f names)) r seen c files events k h e l =
    record { config = c; configured = k; files = files; read = h; loads = l; events_are = e }
stands_with (Err (refusal.Heavy name number)) r seen c files events k h e l =
    record { config = c; configured = k; files = files; read = h; loads = l; events_are = e }

pub stands : (result : Result Case Refusal) (r : Request) (seen : Seen) (c : Config) (files : List (List ℕ))
    (says events : List Event) → Says r.cfg seen.held says (Ok c) → IsThere r.asking c
    → AreRead seen.held (names_in r c) files → events ≡ gave (names_in r c) files → Loads (r.cfg ∷ names_in r c) c files (questions_in r c) result
    → Prepares r seen (says ++ events) result
stands result r seen c files says events k there h e l =
    stands_with result r seen c files (says ++ events) (is_configured r seen.held says c k there) h
    (behind_config r seen c says events k ∙ ap (λ l. Gave r.cfg k.bytes ∷ l) e) l

-- Deliveries one behind the other.
use Rattle.std.proofs.Common.{◌≡◌, ℕ, zero, suc, ◌+◌, ◌≤◌, ◌<◌, List, [], ◌∷◌, ◌++◌, Option, Some, None, Result, Ok}
use Rattle.std.proofs.Common.{Err, length, take, drop, get_or, bytes_eq, if◌then◌else◌, refl, sym, ap, ◌∙◌, subst}
use Rattle.std.proofs.Common.{append_assoc, arith}
use Rattle.std.proofs.lemmas.List.{append-nil}
use Rattle.fv_base.specs.Outside.{Told, Rose, SameFiles, Holds, HoldsSome, HoldsPart, Appends}
use Rattle.fv_base.specs.declared.out.OutFault.{OutFault}
use Rattle.fv_base.specs.declared.out.OutFault.TheVariants as out
use Rattle.std.specs.Prelude.{IsErrOf, OnOk}
use Rattle.fv_base.specs.Events.{put_events}
use Rattle.fv_base.specs.Outside.{AppendsPart, FilesState, OutState, UnlessNotPut}
use Rattle.fv_base.specs.declared.event.Event.{Event}
use Rattle.fv_base.specs.declared.event.Event.TheVariants.{Wrote, Put}
use Rattle.rvf_report.specs.Outcome.{Outside, told_with, held_after, lines_of, Delivers, Pass, PutsPart, LeavesPart}
use Rattle.rvf_report.specs.Outcome.{IsDelivered, IsDone, IsPut, IsWritten, LeavesOne, outside, puts_of, writes_of}
use Rattle.rvf_report.specs.Steps.{CountsIn, AreUnmoved}
use Rattle.rvf_report.specs.declared.delivery.Delivery.{Delivery}
use Rattle.rvf_report.specs.declared.delivery.Delivery.TheVariants.{File, Line}

pub Appends-nothing : (sent : Option (List ℕ)) → Appends sent sent []
Appends-nothing None = tt
Appends-nothing (Some bytes) = sym (append-nil bytes)

Appends-both : (a b c : Option (List ℕ)) (first second : List ℕ) → Appends a b first → Appends b c second
    → Appends a c (first ++ second)
Appends-both None None None first second p q = tt
Appends-both (Some x) (Some y) (Some z) first second p q = q ∙ ap (λ l. l ++ second) p ∙ append_assoc x first second
Appends-both None (Some y) c first second p q = absurd p
Appends-both (Some x) None c first second p q = absurd p
Appends-both None None (Some z) first second p q = absurd q
Appends-both (Some x) (Some y) None first second p q = absurd q

pub SameFiles-refl : (a : Told) → SameFiles a a
SameFiles-refl None = tt
SameFiles-refl (Some f) = λ name. refl

pub SameFiles-trans : (a b c : Told) → SameFiles a b → SameFiles b c → SameFiles a c
SameFiles-trans None None None p q = tt
SameFiles-trans (Some f) (Some g) (Some h) p q = λ name. q name ∙ p name
SameFiles-trans None (Some g) c p q = absurd p
SameFiles-trans (Some f) None c p q = absurd p
SameFiles-trans None None (Some h) p q = absurd q
SameFiles-trans (Some f) (Some g) None p q = absurd q

SameFiles-with : (a b : Told) (name bytes : List ℕ) → SameFiles a b
    → SameFiles (told_with a name bytes) (told_with b name bytes)
SameFiles-with None None name bytes p = tt
SameFiles-with (Some f) (Some g) name bytes p =
    λ other. ap (λ held. if bytes_eq name other then Some bytes else held) (p other)
SameFiles-with None (Some g) name bytes p = absurd p
SameFiles-with (Some f) None name bytes p = absurd p

SameFiles-after : (ds : List Delivery) (a b : Told) → SameFiles a b → SameFiles (held_after a ds) (held_after b ds)
SameFiles-after [] a b p = p
SameFiles-after (File name bytes ∷ ds) a b p =
    SameFiles-after ds (told_with a name bytes) (told_with b name bytes) (SameFiles-with a b name bytes p)
SameFiles-after (Line bytes ∷ ds) a b p = SameFiles-after ds a b p

Holds-with : (a b : Told) (name bytes : List ℕ) → Holds a b name bytes → SameFiles (told_with a name bytes) b
Holds-with None b name bytes p = p
Holds-with (Some f) b name bytes p = p

with-Holds : (a b : Told) (name bytes : List ℕ) → SameFiles (told_with a name bytes) b → Holds a b name bytes
with-Holds None b name bytes p = p
with-Holds (Some f) b name bytes p = p

HoldsSome-earlier : (a b c : Told) (name : List ℕ) (part : Option (List ℕ)) → SameFiles a b → HoldsSome b c name part
    → HoldsSome a c name part
HoldsSome-earlier a b c name None p q = SameFiles-trans a b c p q
HoldsSome-earlier a b c name (Some part) p q =
    with-Holds a c name part (SameFiles-trans (told_with a name part) (told_with b name part) c
    (SameFiles-with a b name part p) (Holds-with b c name part q))

HoldsPart-earlier : (a b c : Told) (name bytes : List ℕ) → SameFiles a b → HoldsPart b c name bytes
    → HoldsPart a c name bytes
HoldsPart-earlier a b c name bytes p q =
    record { part = q.part; is_part = q.is_part; now = HoldsSome-earlier a b c name q.part p q.now }

held_after-append : (ds es : List Delivery) (a : Told) → held_after a (ds ++ es) ≡ held_after (held_after a ds) es
held_after-append [] es a = refl
held_after-append (File name bytes ∷ ds) es a = held_after-append ds es (told_with a name bytes)
held_after-append (Line bytes ∷ ds) es a = held_after-append ds es a

lines_of-append : (ds es : List Delivery) → lines_of (ds ++ es) ≡ lines_of ds ++ lines_of es
lines_of-append [] es = refl
lines_of-append (File name bytes ∷ ds) es = lines_of-append ds es
lines_of-append (Line bytes ∷ ds) es =
    ap (λ l. bytes ++ l) (lines_of-append ds es) ∙ sym (append_assoc bytes (lines_of ds) (lines_of es))

files-behind : (a b c : Told) (first second : List Delivery) → SameFiles (held_after a first) b
    → SameFiles (held_after b second) c → SameFiles (held_after a (first ++ second)) c
files-behind a b c first second p q =
    subst (λ t. SameFiles t c) (sym (held_after-append first second a))
    (SameFiles-trans (held_after (held_after a first) second) (held_after b second) c
    (SameFiles-after second (held_after a first) b p) q)

lines-behind : (a b c : Option (List ℕ)) (first second : List Delivery) → Appends a b (lines_of first)
    → Appends b c (lines_of second) → Appends a c (lines_of (first ++ second))
lines-behind a b c first second p q =
    subst (λ l. Appends a c l) (sym (lines_of-append first second))
    (Appends-both a b c (lines_of first) (lines_of second) p q)

writes_of-append : (ds es : List Delivery) → writes_of (ds ++ es) ≡ writes_of ds ++ writes_of es
writes_of-append [] es = refl
writes_of-append (File name bytes ∷ ds) es = ap (λ l. Wrote name bytes ∷ l) (writes_of-append ds es)
writes_of-append (Line bytes ∷ ds) es = writes_of-append ds es

puts_of-append : (ds es : List Delivery) → puts_of (ds ++ es) ≡ puts_of ds ++ puts_of es
puts_of-append [] es = refl
puts_of-append (File name bytes ∷ ds) es = puts_of-append ds es
puts_of-append (Line bytes ∷ ds) es = ap (λ l. Put bytes ∷ l) (puts_of-append ds es)

-- what was added in two steps was added in one
added-both : (a b c first second both : List Event) → b ≡ a ++ first → c ≡ b ++ second → both ≡ first ++ second
    → c ≡ a ++ both
added-both a b c first second both p q is =
    q ∙ ap (λ l. l ++ second) p ∙ append_assoc a first second ∙ ap (λ l. a ++ l) (sym is)

Pass-behind : (a b c : Outside) (first second : List Delivery) → Pass a b first → Pass b c second
    → Pass a c (first ++ second)
Pass-behind a b c first second p q = record {
  written = added-both a.written b.written c.written (writes_of first) (writes_of second)
      (writes_of (first ++ second)) p.written q.written (writes_of-append first second);
  taken = added-both a.taken b.taken c.taken (puts_of first) (puts_of second) (puts_of (first ++ second)) p.taken
      q.taken (puts_of-append first second);
}

-- nothing passed
pub Pass-nothing : (a b : Outside) → b.written ≡ a.written → b.taken ≡ a.taken → Pass a b []
Pass-nothing a b written taken = record {
  written = written ∙ sym (append-nil a.written);
  taken = taken ∙ sym (append-nil a.taken);
}

pub Delivers-behind : (a b c : Outside) (first second : List Delivery) → Delivers a b first → Delivers b c second
    → Delivers a c (first ++ second)
Delivers-behind a b c first second p q = record {
  files = files-behind a.held b.held c.held first second p.files q.files;
  lines = lines-behind a.sent b.sent c.sent first second p.lines q.lines;
  pass = Pass-behind a b c first second p.pass q.pass;
}

PutsPart-behind : (a b c : Option (List ℕ)) (first second : List Delivery) (line : List ℕ)
    → Appends a b (lines_of first) → PutsPart b c (lines_of second) line
    → PutsPart a c (lines_of (first ++ second)) line
PutsPart-behind a b c first second line p q = record {
  part = q.part;
  is_part = q.is_part;
  put = subst (λ l. Appends a c l)
      (sym (append_assoc (lines_of first) (lines_of second) q.part)
      ∙ ap (λ l. l ++ q.part) (sym (lines_of-append first second)))
      (Appends-both a b c (lines_of first) (lines_of second ++ q.part) p q.put);
}

Rose-later : (first before now : ℕ) → first ≤ before → Rose before now → Rose first now
Rose-later first before now earlier rose = omega arith

pub LeavesPart-behind : (a b c : Outside) (first done : List Delivery) (d : Delivery) → Delivers a b first
    → a.faults ≤ b.faults → a.out_faults ≤ b.out_faults
    → LeavesPart b c done d → LeavesPart a c (first ++ done) d
LeavesPart-behind a b c first done (File name bytes) p faults out_faults q = (
  HoldsPart-earlier (held_after a.held (first ++ done)) (held_after b.held done) c.held name bytes
      (files-behind a.held b.held (held_after b.held done) first done p.files
      (SameFiles-refl (held_after b.held done))) q.0,
  lines-behind a.sent b.sent c.sent first done p.lines q.1,
  Rose-later a.faults b.faults c.faults faults q.2,
  Pass-behind a b c first done p.pass q.3,
)
LeavesPart-behind a b c first done (Line bytes) p faults out_faults q = (
  files-behind a.held b.held c.held first done p.files q.0,
  PutsPart-behind a.sent b.sent c.sent first done bytes p.lines q.1,
  Rose-later a.out_faults b.out_faults c.out_faults out_faults q.2,
  Pass-behind a b c first done p.pass q.3,
)

pub Delivers-nothing : (a : Outside) → Delivers a a []
Delivers-nothing a = record {
  files = SameFiles-refl a.held;
  lines = Appends-nothing a.sent;
  pass = Pass-nothing a a refl refl;
}

-- a delivery that came to a fault, behind others that came through
pub IsDelivered-behind : (fault : OutFault) (a b c : Outside) (first second : List Delivery) → Delivers a b first
    → AreUnmoved a b → IsDelivered (Err fault) b c second → IsDelivered (Err fault) a c (first ++ second)
IsDelivered-behind out.Failed a b c first second p quiet q = record {
  done = first ++ q.done;
  failing = q.failing;
  rest = q.rest;
  order = append_assoc first q.done (q.failing ∷ q.rest) ∙ ap (λ l. first ++ l) q.order;
  part = LeavesPart-behind a b c first q.done q.failing p (omega (arith, quiet.faults))
      (omega (arith, quiet.out_faults)) q.part;
}
IsDelivered-behind out.Memory a b c first second p quiet q = record {
  done = first ++ q.done;
  rest = q.rest;
  order = append_assoc first q.done q.rest ∙ ap (λ l. first ++ l) q.order;
  delivered = Delivers-behind a b c first q.done p q.delivered;
}

-- memory was wanted behind the last one
pub IsDelivered-all : (a b : Outside) (ds : List Delivery) → Delivers a b ds → IsDelivered (Err out.Memory) a b ds
IsDelivered-all a b ds p = record { done = ds; rest = []; order = append-nil ds; delivered = p }

pub AreUnmoved-trans : (a b c : Outside) → AreUnmoved a b → AreUnmoved b c → AreUnmoved a c
AreUnmoved-trans a b c p q = record {
  heard = q.heard ∙ p.heard;
  misses = q.misses ∙ p.misses;
  faults = q.faults ∙ p.faults;
  out_faults = q.out_faults ∙ p.out_faults;
}

pub CountsIn-behind : (fault : OutFault) (a b c : Outside) → AreUnmoved a b → CountsIn (Err fault) b c
    → CountsIn (Err fault) a c
CountsIn-behind out.Failed a b c p q = record {
  heard = q.heard ∙ p.heard;
  misses = q.misses ∙ p.misses;
  faults = omega (arith, p.faults, q.faults);
  out_faults = omega (arith, p.out_faults, q.out_faults);
}
CountsIn-behind out.Memory a b c p q = AreUnmoved-trans a b c p q

-- what was delivered so far
pub record SoFar (a b : Outside) (index : ℕ) (ds : List Delivery) : Type 0 where
  pub delivered : Delivers a b (take index ds)
  pub quiet : AreUnmoved a b

take-next : {A : Type 0} (index : ℕ) (xs : List A) (x : A) → index < length xs → x ≡ get_or xs index x
    → take index xs ++ x ∷ [] ≡ take (index + 1) xs
take-next index [] x lt p = absurd (omega arith)
take-next zero (y ∷ ys) x lt p = rw p
take-next (suc index) (y ∷ ys) x lt p = let e : suc index + 1 ≡ suc (index + 1) = omega arith
    in rw e (ap (λ l. y ∷ l) (take-next index ys x (omega arith) p))

split-at : {A : Type 0} (index : ℕ) (xs : List A) (x : A) → index < length xs → x ≡ get_or xs index x
    → take index xs ++ x ∷ drop (index + 1) xs ≡ xs
split-at index [] x lt p = absurd (omega arith)
split-at zero (y ∷ ys) x lt p = rw p
split-at (suc index) (y ∷ ys) x lt p = let e : suc index + 1 ≡ suc (index + 1) = omega arith
    in rw e (ap (λ l. y ∷ l) (split-at index ys x (omega arith) p))

pub SoFar-more : (a b c : Outside) (index : ℕ) (ds : List Delivery) (d : Delivery) (u : Unit {0}) → index < length ds
    → d ≡ get_or ds index d → SoFar a b index ds
    → IsDone (Ok u) b c d → CountsIn (Ok u) b c → SoFar a c (index + 1) ds
SoFar-more a b c index ds d u lt at so_far done quiet = record {
  delivered = subst (λ l. Delivers a c l) (take-next index ds d lt at)
      (Delivers-behind a b c (take index ds) (d ∷ []) so_far.delivered done);
  quiet = AreUnmoved-trans a b c so_far.quiet quiet;
}

-- one of them came to a fault
one_failed : (fault : OutFault) (b c : Outside) (d : Delivery) (rest : List Delivery) → IsDone (Err fault) b c d
    → IsDelivered (Err fault) b c (d ∷ rest)
one_failed out.Failed b c d rest q = record { done = []; failing = d; rest = rest; order = refl; part = q }
one_failed out.Memory b c d rest q = record { done = []; rest = d ∷ rest; order = refl; delivered = q }

pub SoFar-stops : (fault : OutFault) (a b c : Outside) (index : ℕ) (ds : List Delivery) (d : Delivery)
    → index < length ds → d ≡ get_or ds index d → SoFar a b index ds
    → IsDone (Err fault) b c d → IsDelivered (Err fault) a c ds
SoFar-stops fault a b c index ds d lt at so_far q =
    subst (λ l. IsDelivered (Err fault) a c l) (split-at index ds d lt at)
    (IsDelivered-behind fault a b c (take index ds) (d ∷ drop (index + 1) ds) so_far.delivered so_far.quiet
    (one_failed fault b c d (drop (index + 1) ds) q))

-- where memory was wanted for it, it and those behind it are left
pub SoFar-leaves : (fault : OutFault) (a b c : Outside) (index : ℕ) (ds : List Delivery) (d : Delivery)
    → index < length ds → d ≡ get_or ds index d → SoFar a b index ds
    → IsDone (Err fault) b c d → LeavesOne (Err fault) a c ds
SoFar-leaves out.Failed a b c index ds d lt at so_far q = tt
SoFar-leaves out.Memory a b c index ds d lt at so_far q = record {
  done = take index ds;
  next = d;
  rest = drop (index + 1) ds;
  order = split-at index ds d lt at;
  delivered = subst (λ l. Delivers a c l) (append-nil (take index ds))
      (Delivers-behind a b c (take index ds) [] so_far.delivered q);
}

-- ---- one delivery

pub written_done : (put : Result (Unit {0}) OutFault) (a b : FilesState) (o : OutState) (name bytes : List ℕ)
    → IsWritten put a b name bytes → IsDone put (outside a o) (outside b o) (File name bytes)
written_done (Ok u) a b o name bytes w = record {
  files = Holds-with a.held b.held name bytes w.0;
  lines = Appends-nothing o.sent;
  pass = record { written = w.1; taken = sym (append-nil o.taken) };
}
written_done (Err out.Failed) a b o name bytes w =
    (w.0, Appends-nothing o.sent, w.1, Pass-nothing (outside a o) (outside b o) w.2 refl)
written_done (Err out.Memory) a b o name bytes w = record {
  files = w.0;
  lines = Appends-nothing o.sent;
  pass = Pass-nothing (outside a o) (outside b o) w.1 refl;
}

pub written_counts : (put : Result (Unit {0}) OutFault) (a b : FilesState) (o : OutState) → b.heard ≡ a.heard
    → b.misses ≡ a.misses → a.faults ≤ b.faults → UnlessNotPut put (b.faults ≡ a.faults)
    → CountsIn put (outside a o) (outside b o)
written_counts (Ok u) a b o heard misses grow quiet =
    record { heard = heard; misses = misses; faults = quiet; out_faults = refl }
written_counts (Err out.Failed) a b o heard misses grow quiet =
    record { heard = heard; misses = misses; faults = grow; out_faults = omega arith }
written_counts (Err out.Memory) a b o heard misses grow quiet =
    record { heard = heard; misses = misses; faults = quiet; out_faults = refl }

pub put_done : (put : Result (Unit {0}) OutFault) (f : FilesState) (a b : OutState) (line : List ℕ)
    → IsPut put a b line → IsDone put (outside f a) (outside f b) (Line line)
put_done (Ok u) f a b line p = record {
  files = SameFiles-refl f.held;
  lines = subst (λ l. Appends a.sent b.sent l) (sym (append-nil line)) p.0;
  pass = record { written = sym (append-nil f.written); taken = p.1 };
}
put_done (Err out.Failed) f a b line p = (
  SameFiles-refl f.held,
  record { part = p.0.part; is_part = p.0.is_part; put = p.0.now },
  p.1,
  Pass-nothing (outside f a) (outside f b) refl p.2,
)
put_done (Err out.Memory) f a b line p = record {
  files = SameFiles-refl f.held;
  lines = subst (λ s. Appends a.sent s []) (sym p.0) (Appends-nothing a.sent);
  pass = Pass-nothing (outside f a) (outside f b) refl p.1;
}

pub put_counts : (put : Result (Unit {0}) OutFault) (f : FilesState) (a b : OutState) → a.faults ≤ b.faults
    → UnlessNotPut put (b.faults ≡ a.faults) → CountsIn put (outside f a) (outside f b)
put_counts (Ok u) f a b grow quiet = record { heard = refl; misses = refl; faults = refl; out_faults = quiet }
put_counts (Err out.Failed) f a b grow quiet =
    record { heard = refl; misses = refl; faults = omega arith; out_faults = grow }
put_counts (Err out.Memory) f a b grow quiet = record { heard = refl; misses = refl; faults = refl; out_faults = quiet }

pub is_put : (put : Result (Unit {0}) OutFault) (a b : OutState) (line : List ℕ) → OnOk put (Appends a.sent b.sent line)
    → (IsErrOf put out.Failed → Rose a.faults b.faults) → (IsErrOf put out.Failed → AppendsPart a.sent b.sent line)
    → (IsErrOf put out.Memory → b.sent ≡ a.sent) → b.taken ≡ a.taken ++ put_events line put → IsPut put a b line
is_put (Ok u) a b line ok failed part memory taken = (ok, taken)
is_put (Err out.Failed) a b line ok failed part memory taken = (part refl, failed refl, taken ∙ append-nil a.taken)
is_put (Err out.Memory) a b line ok failed part memory taken = (memory refl, taken ∙ append-nil a.taken)

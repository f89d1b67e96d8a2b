-- What each line makes of the lines still to come, up to the last value at time 0.
use Rattle.std.proofs.Common.{◌≡◌, ℕ, suc, ◌+◌, ◌^◌, ◌<◌, ◌↔◌, codes, Option, Some, None, List, [], ◌∷◌, ◌++◌, length}
use Rattle.std.proofs.Common.{drop, refl, ap, sym, subst, ◌∙◌, append_assoc, arith}
use Rattle.std.proofs.lemmas.List.{append-nil, length_push}
use Rattle.std.specs.List.{AllByRecursion}
use Rattle.fv_text.specs.declared.trace.Trace.{Trace}
use Rattle.fv_text.specs.declared.trace.TraceName.{TraceName}
use Rattle.vcd_text.specs.declared.reader.Part.TheVariants.{Scale, Scope, Names, Definitions, Start, Dump, Values}
use Rattle.vcd_text.specs.Reading.{IsAt, IsPlain, FindsName, FindsValue}
use Rattle.vcd_text.specs.Reached.{AreNamesLeft, IsDumpLeft, AreNames, IsEarly, IsReached, GoesOn, StopsAt}
use Rattle.vcd_dump.specs.Vcd.{IsWide, AreValues, name_line, name_lines, header_lines, value_line, value_lines}
use Rattle.vcd_dump.specs.Vcd.{later_lines, cycle_lines}
use Rattle.vcd_dump.proofs.WriteLemmas.{as_many}
use Rattle.vcd_text.proofs.Alike.{value_line_same, name_not_end, name_line_same}
use Rattle.vcd_text.proofs.Lists.{all_append, all_middle, lines_same, lines_are, at_within, at_some, at_drop}
use Rattle.vcd_text.proofs.Lists.{value_fits, first_none, first_push, cycle_values}

abbrev scope : List ℕ
scope = codes "$scope module rvfi_wrapper $end"

abbrev up : List ℕ
up = codes "$upscope $end"

abbrev definitions : List ℕ
definitions = codes "$enddefinitions $end"

-- one wanted line
fixed : (line wanted : List ℕ) (xs rest : List (List ℕ)) → line ≡ wanted → (rest ≡ xs) ↔ (line ∷ rest ≡ wanted ∷ xs)
fixed line wanted xs rest l = (λ e. lines_are line wanted rest xs l e, λ e. (lines_same line wanted rest xs e).1)

unfixed : (line wanted : List ℕ) (xs rest : List (List ℕ)) → (line ≡ wanted → ⊥) → line ∷ rest ≡ wanted ∷ xs → ⊥
unfixed line wanted xs rest h e = h (lines_same line wanted rest xs e).0

header_is : (t : Trace) → header_lines t.names ++ cycle_lines t.names t.cycles ≡ codes "$timescale 1 ns $end" ∷ scope
    ∷ (name_lines 0 t.names ++ up ∷ definitions ∷ cycle_lines t.names t.cycles)
header_is t = ap (λ z. codes "$timescale 1 ns $end" ∷ scope ∷ z)
    (append_assoc (name_lines 0 t.names) (up ∷ definitions ∷ []) (cycle_lines t.names t.cycles))

pub scale_step : (ns : List TraceName) (cs : List (List ℕ)) (vs : List ℕ) (k : ℕ) (line : List ℕ)
    → line ≡ codes "$timescale 1 ns $end" → IsReached Scale ns cs vs k → GoesOn Scale ns cs vs k line Scope ns cs vs k
scale_step ns cs vs k line l s = (
  s,
  λ t rest r.
      let xs = scope ∷ (name_lines 0 t.names ++ up ∷ definitions ∷ cycle_lines t.names t.cycles) in
      let f = fixed line (codes "$timescale 1 ns $end") xs rest l in
      (λ e. f.0 e ∙ sym (header_is t), λ e. f.1 (e ∙ header_is t)),
)

pub scale_stop : (ns : List TraceName) (cs : List (List ℕ)) (vs : List ℕ) (k : ℕ) (line : List ℕ)
    → (line ≡ codes "$timescale 1 ns $end" → ⊥) → StopsAt Scale ns cs vs k line
scale_stop ns cs vs k line h = λ t rest r e. unfixed line (codes "$timescale 1 ns $end")
    (scope ∷ (name_lines 0 t.names ++ up ∷ definitions ∷ cycle_lines t.names t.cycles)) rest h (e ∙ header_is t)

scope_from_none : (cs : List (List ℕ)) (vs : List ℕ) (k : ℕ) (line : List ℕ) → line ≡ scope → IsEarly cs vs
    → GoesOn Scope [] cs vs k line Names [] cs vs k
scope_from_none cs vs k line l s = (
  (record { wide = tt; plain = tt }, s),
  λ t rest r.
      let xs = name_lines 0 t.names ++ up ∷ definitions ∷ cycle_lines t.names t.cycles in
      let f = fixed line scope xs rest l in (
        λ h. f.0 (h.left ∙ ap (λ z. name_lines 0 z ++ up ∷ definitions ∷ cycle_lines t.names t.cycles) (sym h.all_are)),
        λ e. record { others = t.names; all_are = refl; left = f.1 e },
      ),
)

pub scope_step : (ns : List TraceName) (cs : List (List ℕ)) (vs : List ℕ) (k : ℕ) (line : List ℕ)
    → line ≡ codes "$scope module rvfi_wrapper $end" → IsReached Scope ns cs vs k
    → GoesOn Scope ns cs vs k line Names ns cs vs k
scope_step ns cs vs k line l s =
    subst (λ z. GoesOn Scope z cs vs k line Names z cs vs k) (sym s.0) (scope_from_none cs vs k line l s.1)

pub scope_stop : (ns : List TraceName) (cs : List (List ℕ)) (vs : List ℕ) (k : ℕ) (line : List ℕ)
    → (line ≡ codes "$scope module rvfi_wrapper $end" → ⊥) → StopsAt Scope ns cs vs k line
scope_stop ns cs vs k line h = λ t rest r e. unfixed line scope
    (name_lines 0 t.names ++ up ∷ definitions ∷ cycle_lines t.names t.cycles) rest h e

-- the line behind the last name
up_from : (ns all : List TraceName) (cycles rest : List (List ℕ)) (line : List ℕ) (others : List TraceName)
    → line ≡ up → all ≡ ns ++ others → line ∷ rest ≡ name_lines (length ns) others ++ up ∷ definitions
    ∷ cycle_lines all cycles → (all ≡ ns) × (rest ≡ definitions ∷ cycle_lines ns cycles)
up_from ns all cycles rest line [] l a e =
    let b : all ≡ ns = a ∙ append-nil ns in (
      b,
      (lines_same line up rest (definitions ∷ cycle_lines all cycles) e).1
          ∙ ap (λ z. definitions ∷ cycle_lines z cycles) b,
    )
up_from ns all cycles rest line (n ∷ others) l a e = absurd
    (name_not_end (length ns) n (sym (lines_same line (name_line (length ns) n) rest
    (name_lines (length ns + 1) others ++ up ∷ definitions ∷ cycle_lines all cycles) e).0 ∙ l))

pub up_step : (ns : List TraceName) (cs : List (List ℕ)) (vs : List ℕ) (k : ℕ) (line : List ℕ)
    → line ≡ codes "$upscope $end" → IsReached Names ns cs vs k → GoesOn Names ns cs vs k line Definitions ns cs vs k
up_step ns cs vs k line l s = (
  s,
  λ t rest r. (
    λ h. record {
      others = [];
      all_are = h.0 ∙ sym (append-nil ns);
      left = lines_are line up rest (definitions ∷ cycle_lines t.names t.cycles) l
          (h.1 ∙ ap (λ z. definitions ∷ cycle_lines z t.cycles) (sym h.0));
    },
    λ h. up_from ns t.names t.cycles rest line h.others l h.all_are h.left,
  ),
)

-- the line of a name
name_from : (ns all : List TraceName) (cycles rest : List (List ℕ)) (line : List ℕ) (n : TraceName)
    (others : List TraceName) → line ≡ name_line (length ns) n → IsWide n → AllByRecursion IsWide all
    → all ≡ ns ++ others → line ∷ rest ≡ name_lines (length ns) others ++ up ∷ definitions ∷ cycle_lines all cycles
    → AreNamesLeft (ns ++ n ∷ []) all cycles rest
name_from ns all cycles rest line n [] l w a p e =
    absurd (name_not_end (length ns) n (sym l ∙ (lines_same line up rest (definitions ∷ cycle_lines all cycles) e).0))
name_from ns all cycles rest line n (m ∷ others) l w a p e =
    let q = lines_same line (name_line (length ns) m) rest
    (name_lines (length ns + 1) others ++ up ∷ definitions ∷ cycle_lines all cycles) e in
    let wm : IsWide m = all_middle IsWide ns m others (subst (AllByRecursion IsWide) p a) in
    let s : m ≡ n = name_line_same (length ns) m n wm w (sym q.0 ∙ l) in
    record {
      others = others;
      all_are = p ∙ ap (λ z. ns ++ z ∷ others) s ∙ sym (append_assoc ns (n ∷ []) others);
      left = q.1 ∙ ap (λ z. name_lines z others ++ up ∷ definitions ∷ cycle_lines all cycles) (sym (length_push ns n));
    }

pub name_step : (ns : List TraceName) (cs : List (List ℕ)) (vs : List ℕ) (k : ℕ) (line : List ℕ) (n : TraceName)
    → line ≡ name_line (length ns) n → IsWide n → IsPlain n → IsReached Names ns cs vs k
    → GoesOn Names ns cs vs k line Names (ns ++ n ∷ []) cs vs k
name_step ns cs vs k line n l w p s = (
  (
    record {
      wide = all_append IsWide ns (n ∷ []) s.0.wide (w, tt);
      plain = all_append IsPlain ns (n ∷ []) s.0.plain (p, tt);
    },
    s.1,
  ),
  λ t rest r. (
    λ h. record {
      others = n ∷ h.others;
      all_are = h.all_are ∙ append_assoc ns (n ∷ []) h.others;
      left = lines_are line (name_line (length ns) n) rest
          (name_lines (length ns + 1) h.others ++ up ∷ definitions ∷ cycle_lines t.names t.cycles) l
          (h.left ∙ ap (λ z. name_lines z h.others ++ up ∷ definitions ∷ cycle_lines t.names t.cycles)
          (length_push ns n));
    },
    λ h. name_from ns t.names t.cycles rest line n h.others l w r.trace.wide h.all_are h.left,
  ),
)

name_none : (ns all : List TraceName) (cycles rest : List (List ℕ)) (line : List ℕ) (others : List TraceName)
    → (line ≡ up → ⊥) → FindsName (length ns) line None → AllByRecursion IsWide all → AllByRecursion IsPlain all
    → all ≡ ns ++ others → line ∷ rest ≡ name_lines (length ns) others ++ up ∷ definitions ∷ cycle_lines all cycles → ⊥
name_none ns all cycles rest line [] h f w p a e =
    h (lines_same line up rest (definitions ∷ cycle_lines all cycles) e).0
name_none ns all cycles rest line (m ∷ others) h f w p a e = f m
    (all_middle IsWide ns m others (subst (AllByRecursion IsWide) a w))
    (all_middle IsPlain ns m others (subst (AllByRecursion IsPlain) a p))
    (lines_same line (name_line (length ns) m) rest
    (name_lines (length ns + 1) others ++ up ∷ definitions ∷ cycle_lines all cycles) e).0

pub name_stop : (ns : List TraceName) (cs : List (List ℕ)) (vs : List ℕ) (k : ℕ) (line : List ℕ)
    → (line ≡ codes "$upscope $end" → ⊥) → FindsName (length ns) line None → StopsAt Names ns cs vs k line
name_stop ns cs vs k line h f =
    λ t rest r e. name_none ns t.names t.cycles rest line e.others h f r.trace.wide r.plain e.all_are e.left

pub definitions_step : (ns : List TraceName) (cs : List (List ℕ)) (vs : List ℕ) (k : ℕ) (line : List ℕ)
    → line ≡ codes "$enddefinitions $end" → IsReached Definitions ns cs vs k
    → GoesOn Definitions ns cs vs k line Start ns cs vs k
definitions_step ns cs vs k line l s = (
  s,
  λ t rest r.
      let f = fixed line definitions (cycle_lines ns t.cycles) rest l in
      (λ h. (h.0, f.0 h.1), λ h. (h.0, f.1 h.1)),
)

pub definitions_stop : (ns : List TraceName) (cs : List (List ℕ)) (vs : List ℕ) (k : ℕ) (line : List ℕ)
    → (line ≡ codes "$enddefinitions $end" → ⊥) → StopsAt Definitions ns cs vs k line
definitions_stop ns cs vs k line h = λ t rest r e. unfixed line definitions (cycle_lines ns t.cycles) rest h e.1

-- the cycles from time 0 on
start_is : (ns : List TraceName) (first : List ℕ) (later : List (List ℕ))
    → cycle_lines ns (first ∷ later) ≡ codes "#0" ∷ codes "$dumpvars"
    ∷ (value_lines 0 ns first ++ codes "$end" ∷ later_lines ns 1 first later)
start_is ns first later = ap (λ z. codes "#0" ∷ codes "$dumpvars" ∷ z)
    (append_assoc (value_lines 0 ns first) (codes "$end" ∷ []) (later_lines ns 1 first later))

start_from : (ns : List TraceName) (cycles rest : List (List ℕ)) (line : List ℕ) → 0 < length cycles
    → line ∷ rest ≡ cycle_lines ns cycles → (line ≡ codes "#0") × IsDumpLeft ns cycles rest
start_from ns [] rest line l e = absurd (omega (arith, l))
start_from ns (first ∷ later) rest line l e =
    let q = lines_same line (codes "#0") rest
    (codes "$dumpvars" ∷ (value_lines 0 ns first ++ codes "$end" ∷ later_lines ns 1 first later))
    (e ∙ start_is ns first later) in
    (q.0, record { first = first; later = later; cycles_are = refl; left = q.1 })

pub start_step : (ns : List TraceName) (cs : List (List ℕ)) (vs : List ℕ) (k : ℕ) (line : List ℕ) → line ≡ codes "#0"
    → IsReached Start ns cs vs k → GoesOn Start ns cs vs k line Dump ns cs vs k
start_step ns cs vs k line l s = (
  s,
  λ t rest r. (
    λ h. (
      h.0,
      lines_are line (codes "#0") rest
          (codes "$dumpvars" ∷ (value_lines 0 ns h.1.first ++ codes "$end"
          ∷ later_lines ns 1 h.1.first h.1.later)) l h.1.left
          ∙ sym (ap (cycle_lines ns) h.1.cycles_are ∙ start_is ns h.1.first h.1.later),
    ),
    λ h. (h.0, (start_from ns t.cycles rest line r.trace.some h.1).1),
  ),
)

pub start_stop : (ns : List TraceName) (cs : List (List ℕ)) (vs : List ℕ) (k : ℕ) (line : List ℕ)
    → (line ≡ codes "#0" → ⊥) → StopsAt Start ns cs vs k line
start_stop ns cs vs k line h = λ t rest r e. h (start_from ns t.cycles rest line r.trace.some e.1).0

dump_from_none : (ns : List TraceName) (cs : List (List ℕ)) (k : ℕ) (line : List ℕ) → line ≡ codes "$dumpvars"
    → AreNames ns → cs ≡ [] → GoesOn Dump ns cs [] k line Values ns cs [] k
dump_from_none ns cs k line l n c = (
  (n, c, first_none ns),
  λ t rest r. (
    λ h. (
      h.0,
      record {
        first = h.1.others;
        later = h.1.later;
        cycles_are = h.1.cycles_are;
        left = lines_are line (codes "$dumpvars") rest
            (value_lines 0 ns h.1.others ++ codes "$end" ∷ later_lines ns 1 h.1.others h.1.later) l h.1.left;
      },
    ),
    λ h. (
      h.0,
      record {
        others = h.1.first;
        later = h.1.later;
        cycles_are = h.1.cycles_are;
        left = (lines_same line (codes "$dumpvars") rest
            (value_lines 0 ns h.1.first ++ codes "$end" ∷ later_lines ns 1 h.1.first h.1.later) h.1.left).1;
      },
    ),
  ),
)

pub dump_step : (ns : List TraceName) (cs : List (List ℕ)) (vs : List ℕ) (k : ℕ) (line : List ℕ)
    → line ≡ codes "$dumpvars" → IsReached Dump ns cs vs k → GoesOn Dump ns cs vs k line Values ns cs vs k
dump_step ns cs vs k line l s = subst (λ z. GoesOn Dump ns cs z k line Values ns cs z k) (sym s.1.no_values)
    (dump_from_none ns cs k line l s.0 s.1.none)

pub dump_stop : (ns : List TraceName) (cs : List (List ℕ)) (vs : List ℕ) (k : ℕ) (line : List ℕ)
    → (line ≡ codes "$dumpvars" → ⊥) → StopsAt Dump ns cs vs k line
dump_stop ns cs vs k line h = λ t rest r e. unfixed line (codes "$dumpvars")
    (value_lines 0 ns e.1.first ++ codes "$end" ∷ later_lines ns 1 e.1.first e.1.later) rest h e.1.left

-- the values at time 0 from one on
abbrev values_to : List TraceName → ℕ → List ℕ → List ℕ → List (List ℕ) → List (List ℕ)
values_to ns i os c later = value_lines i (drop i ns) os ++ codes "$end" ∷ later_lines ns 1 c later

value_next : (ns : List TraceName) (i v : ℕ) (n : TraceName) (os c : List ℕ) (later : List (List ℕ)) → IsAt ns i n
    → values_to ns i (v ∷ os) c later ≡ value_line i n v ∷ values_to ns (i + 1) os c later
value_next ns i v n os c later a =
    let e : suc i ≡ i + 1 = omega arith in
    ap (λ z. value_lines i z (v ∷ os) ++ codes "$end" ∷ later_lines ns 1 c later) (at_drop ns i n a)
    ∙ ap (λ z. value_line i n v ∷ (value_lines (i + 1) (drop z ns) os ++ codes "$end" ∷ later_lines ns 1 c later)) e

pub record IsNextValue (ns : List TraceName) (vs line others : List ℕ) (later rest : List (List ℕ))
    (n : TraceName) : Type 0 where
  pub value : ℕ
  pub behind : List ℕ
  pub others_are : others ≡ value ∷ behind
  pub fits : value < 2 ^ n.width
  pub line_is : line ≡ value_line (length vs) n value
  pub rest_is : rest ≡ values_to ns (length vs + 1) behind (vs ++ value ∷ behind) later

value_from : (ns : List TraceName) (vs line others : List ℕ) (later rest : List (List ℕ)) (n : TraceName)
    → IsAt ns (length vs) n → AreValues ns (vs ++ others)
    → line ∷ rest ≡ values_to ns (length vs) others (vs ++ others) later → IsNextValue ns vs line others later rest n
value_from ns vs line [] later rest n a v e = absurd (
    let l : length vs < length ns = at_within ns (length vs) n a in
    let m : length (vs ++ []) ≡ length ns = as_many ns (vs ++ []) v in
    let k : length (vs ++ []) ≡ length vs = ap length (append-nil vs) in
    omega (arith, l, m, k))
value_from ns vs line (w ∷ os) later rest n a v e =
    let q = lines_same line (value_line (length vs) n w) rest (values_to ns (length vs + 1) os (vs ++ w ∷ os) later)
    (e ∙ value_next ns (length vs) w n os (vs ++ w ∷ os) later a) in
    record {
      value = w;
      behind = os;
      others_are = refl;
      fits = value_fits ns vs w os n v a;
      line_is = q.0;
      rest_is = q.1;
    }

pub value_step : (ns : List TraceName) (cs : List (List ℕ)) (vs : List ℕ) (k : ℕ) (line : List ℕ) (n : TraceName)
    (v : ℕ) → IsAt ns (length vs) n → v < 2 ^ n.width → line ≡ value_line (length vs) n v
    → IsReached Values ns cs vs k → GoesOn Values ns cs vs k line Values ns cs (vs ++ v ∷ []) k
value_step ns cs vs k line n v a f l s = (
  (s.0, s.1, first_push ns vs v n s.2 a f),
  λ t rest r. (
    λ h.
        let i : length (vs ++ v ∷ []) ≡ length vs + 1 = length_push vs v in
        let c : (vs ++ v ∷ []) ++ h.1.others ≡ vs ++ v ∷ h.1.others = append_assoc vs (v ∷ []) h.1.others in (
          h.0,
          record {
            others = v ∷ h.1.others;
            later = h.1.later;
            cycles_are = h.1.cycles_are ∙ ap (λ z. z ∷ h.1.later) c;
            left = lines_are line (value_line (length vs) n v) rest
                (values_to ns (length vs + 1) h.1.others (vs ++ v ∷ h.1.others) h.1.later) l
                (h.1.left ∙ ap (λ z. values_to ns z h.1.others ((vs ++ v ∷ []) ++ h.1.others) h.1.later) i
                ∙ ap (λ z. values_to ns (length vs + 1) h.1.others z h.1.later) c)
                ∙ sym (value_next ns (length vs) v n h.1.others (vs ++ v ∷ h.1.others) h.1.later a);
          },
        ),
    λ h.
        let i : length (vs ++ v ∷ []) ≡ length vs + 1 = length_push vs v in
        let q = value_from ns vs line h.1.others h.1.later rest n a
        (cycle_values t r ns [] (vs ++ h.1.others) h.1.later h.0 h.1.cycles_are) h.1.left in
        let w : q.value ≡ v = (value_line_same (length vs) (length vs) q.value v n n q.fits f (sym q.line_is ∙ l)).1 in
        let o : vs ++ h.1.others ≡ vs ++ q.value ∷ q.behind = ap (λ z. vs ++ z) q.others_are in
        let c : vs ++ q.value ∷ q.behind ≡ (vs ++ v ∷ []) ++ q.behind = ap (λ z. vs ++ z ∷ q.behind) w
        ∙ sym (append_assoc vs (v ∷ []) q.behind) in (
          h.0,
          record {
            others = q.behind;
            later = h.1.later;
            cycles_are = h.1.cycles_are ∙ ap (λ z. z ∷ h.1.later) (o ∙ c);
            left = q.rest_is ∙ ap (λ z. values_to ns (length vs + 1) q.behind z h.1.later) c
                ∙ ap (λ z. values_to ns z q.behind ((vs ++ v ∷ []) ++ q.behind) h.1.later) (sym i);
          },
        ),
  ),
)

pub value_stop : (ns : List TraceName) (cs : List (List ℕ)) (vs : List ℕ) (k : ℕ) (line : List ℕ)
    (found : Option (ℕ × ℕ)) → length vs < length ns → FindsValue ns line found
    → ((x : ℕ × ℕ) → found ≡ Some x → x.0 ≡ length vs → ⊥) → StopsAt Values ns cs vs k line
value_stop ns cs vs k line found b f d = λ t rest r h.
    let n = at_some ns (length vs) b in
    let q = value_from ns vs line h.1.others h.1.later rest n.0 n.1
    (cycle_values t r ns [] (vs ++ h.1.others) h.1.later h.0 h.1.cycles_are) h.1.left in
    differs_at found f d n.0 q.value n.1 q.fits q.line_is where
      differs_at : (found : Option (ℕ × ℕ)) → FindsValue ns line found
          → ((x : ℕ × ℕ) → found ≡ Some x → x.0 ≡ length vs → ⊥) → (n : TraceName) (v : ℕ) → IsAt ns (length vs) n
          → v < 2 ^ n.width → line ≡ value_line (length vs) n v → ⊥
      differs_at None f d n v a l e = f (length vs) v n a l e
      differs_at (Some x) f d n v a l e = d x refl (value_line_same x.0 (length vs) x.1 v f.0 n f.2 l (sym f.3 ∙ e)).0

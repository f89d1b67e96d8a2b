-- What a reader makes of a line, from what its parts are before and after.
use Rattle.std.proofs.Common.{◌≡◌, ℕ, ◌+◌, ◌<◌, ◌≤◌, Bool, true, false, not, eqb, codes, Option, Some, None}
use Rattle.std.proofs.Common.{option_map, List, [], ◌∷◌, ◌++◌, length, get_or, set, refl, ap, sym, subst, ◌∙◌, arith}
use Rattle.std.proofs.lemmas.Bool.{false≢true}
use lib.Pointwise.{pointwise, bytes_decides}
use Rattle.fv_text.specs.declared.trace.TraceName.{TraceName}
use Rattle.vcd_text.specs.declared.reader.Part.{Part}
use Rattle.vcd_text.specs.declared.reader.Part.TheVariants.{Scale, Scope, Names, Definitions, Start, Dump, Values}
use Rattle.vcd_text.specs.declared.reader.Part.TheVariants.{Changes}
use Rattle.vcd_text.specs.declared.reader.Reader.{Reader}
use Rattle.vcd_text.specs.Reached.{IsReached, GoesOn, StopsAt, IsSound, Takes, TakesFixed, IsClosed}
use Rattle.vcd_text.specs.Reading.{IsAt, IsPlain, FindsName, FindsValue}
use Rattle.vcd_dump.specs.Vcd.{IsWide, name_line, value_line, time_line}
use Rattle.vcd_dump.proofs.WriteLemmas.{as_many}
use Rattle.vcd_text.proofs.Lists.{at_within, first_within}
use Rattle.vcd_text.proofs.Steps.{scale_step, scale_stop, scope_step, scope_stop, definitions_step, definitions_stop}
use Rattle.vcd_text.proofs.Steps.{start_step, start_stop, dump_step, dump_stop, name_step, value_step, value_stop}
use Rattle.vcd_text.proofs.Later.{time_step, change_step, change_stop, change_none, change_other}

pub sound_at : (r : Reader) (p : Part) → r.part ≡ p → IsSound r
    → IsReached p r.names.items r.cycles.items r.values.items r.next
sound_at r p e s = subst (λ x. IsReached x r.names.items r.cycles.items r.values.items r.next) e s

-- from the parts of the reader before and after
pub goes : (old new : Reader) (line : List ℕ) (p p2 : Part) (ns2 : List TraceName) (cs2 : List (List ℕ))
    (vs2 : List ℕ) (k2 : ℕ) → old.part ≡ p → new.part ≡ p2 → new.names.items ≡ ns2 → new.cycles.items ≡ cs2
    → new.values.items ≡ vs2 → new.next ≡ k2
    → GoesOn p old.names.items old.cycles.items old.values.items old.next line p2 ns2 cs2 vs2 k2
    → Takes old line true new
goes old new line p p2 ns2 cs2 vs2 k2 e0 e1 e2 e3 e4 e5 g =
    subst (λ x. GoesOn x old.names.items old.cycles.items old.values.items old.next line new.part new.names.items
    new.cycles.items new.values.items new.next) (sym e0)
    (subst (λ x. GoesOn p old.names.items old.cycles.items old.values.items old.next line x new.names.items
    new.cycles.items new.values.items new.next) (sym e1)
    (subst (λ x. GoesOn p old.names.items old.cycles.items old.values.items old.next line p2 x new.cycles.items
    new.values.items new.next) (sym e2)
    (subst (λ x. GoesOn p old.names.items old.cycles.items old.values.items old.next line p2 ns2 x new.values.items
    new.next) (sym e3)
    (subst (λ x. GoesOn p old.names.items old.cycles.items old.values.items old.next line p2 ns2 cs2 x new.next)
    (sym e4)
    (subst (λ x. GoesOn p old.names.items old.cycles.items old.values.items old.next line p2 ns2 cs2 vs2 x)
    (sym e5) g)))))

pub stops : (old new : Reader) (line : List ℕ) (p : Part) → old.part ≡ p
    → StopsAt p old.names.items old.cycles.items old.values.items old.next line → Takes old line false new
stops old new line p e s =
    subst (λ x. StopsAt x old.names.items old.cycles.items old.values.items old.next line) (sym e) s

-- only the part is another
pub part_alone : (old new : Reader) (line : List ℕ) (p p2 : Part) → old.part ≡ p → new ≡ record old { part = p2 }
    → GoesOn p old.names.items old.cycles.items old.values.items old.next line p2 old.names.items old.cycles.items
    old.values.items old.next → Takes old line true new
part_alone old new line p p2 e n g =
    goes old new line p p2 old.names.items old.cycles.items old.values.items old.next e (ap (λ x. x.part) n)
    (ap (λ x. x.names.items) n) (ap (λ x. x.cycles.items) n) (ap (λ x. x.values.items) n) (ap (λ x. x.next) n) g

pub takes_scale : (old new : Reader) (line : List ℕ) (took : Bool) → old.part ≡ Scale → IsSound old
    → TakesFixed old line (codes "$timescale 1 ns $end") Scope took new → Takes old line took new
takes_scale old new line true e s t = part_alone old new line Scale Scope e t.1
    (scale_step old.names.items old.cycles.items old.values.items old.next line t.0 (sound_at old Scale e s))
takes_scale old new line false e s t =
    stops old new line Scale e (scale_stop old.names.items old.cycles.items old.values.items old.next line t)

pub takes_scope : (old new : Reader) (line : List ℕ) (took : Bool) → old.part ≡ Scope → IsSound old
    → TakesFixed old line (codes "$scope module rvfi_wrapper $end") Names took new → Takes old line took new
takes_scope old new line true e s t = part_alone old new line Scope Names e t.1
    (scope_step old.names.items old.cycles.items old.values.items old.next line t.0 (sound_at old Scope e s))
takes_scope old new line false e s t =
    stops old new line Scope e (scope_stop old.names.items old.cycles.items old.values.items old.next line t)

pub takes_definitions : (old new : Reader) (line : List ℕ) (took : Bool) → old.part ≡ Definitions → IsSound old
    → TakesFixed old line (codes "$enddefinitions $end") Start took new → Takes old line took new
takes_definitions old new line true e s t = part_alone old new line Definitions Start e t.1
    (definitions_step old.names.items old.cycles.items old.values.items old.next line t.0
    (sound_at old Definitions e s))
takes_definitions old new line false e s t = stops old new line Definitions e
    (definitions_stop old.names.items old.cycles.items old.values.items old.next line t)

pub takes_start : (old new : Reader) (line : List ℕ) (took : Bool) → old.part ≡ Start → IsSound old
    → TakesFixed old line (codes "#0") Dump took new → Takes old line took new
takes_start old new line true e s t = part_alone old new line Start Dump e t.1
    (start_step old.names.items old.cycles.items old.values.items old.next line t.0 (sound_at old Start e s))
takes_start old new line false e s t =
    stops old new line Start e (start_stop old.names.items old.cycles.items old.values.items old.next line t)

pub takes_dump : (old new : Reader) (line : List ℕ) (took : Bool) → old.part ≡ Dump → IsSound old
    → TakesFixed old line (codes "$dumpvars") Values took new → Takes old line took new
takes_dump old new line true e s t = part_alone old new line Dump Values e t.1
    (dump_step old.names.items old.cycles.items old.values.items old.next line t.0 (sound_at old Dump e s))
takes_dump old new line false e s t =
    stops old new line Dump e (dump_stop old.names.items old.cycles.items old.values.items old.next line t)

pub takes_time : (old new : Reader) (line : List ℕ) → old.part ≡ Changes → IsSound old
    → line ≡ time_line (length old.cycles.items + 1) → IsClosed old new → Takes old line true new
takes_time old new line e s l c = goes old new line Changes Changes old.names.items
    (old.cycles.items ++ old.values.items ∷ []) old.values.items 0 e
    (c.part_is ∙ e) c.names_are c.cycles_are c.values_are c.next_is
    (time_step old.names.items old.cycles.items old.values.items old.next line l (sound_at old Changes e s))

-- what a comparison of bytes says
not_true : (b : Bool) → true ≡ not b → b ≡ true → ⊥
not_true true e f = false≢true (sym e)
not_true false e f = false≢true f

not_false : (b : Bool) → false ≡ not b → b ≡ true
not_false true e = refl
not_false false e = absurd (false≢true e)

pub bytes_differ : (xs ys zs : List ℕ) (b : Bool) → b ≡ not (pointwise eqb xs ys) → b ≡ true → ys ≡ zs → xs ≡ zs → ⊥
bytes_differ xs ys zs b e t y x = not_true (pointwise eqb xs ys) (sym t ∙ e) ((bytes_decides xs ys).1 (x ∙ sym y))

pub bytes_same : (xs ys zs : List ℕ) (b : Bool) → b ≡ not (pointwise eqb xs ys) → b ≡ false → ys ≡ zs → xs ≡ zs
bytes_same xs ys zs b e t y = (bytes_decides xs ys).0 (not_false (pointwise eqb xs ys) (sym t ∙ e)) ∙ y

-- the part before alone has another name
pub goes_from : (p q : Part) (ns : List TraceName) (cs : List (List ℕ)) (vs : List ℕ) (k : ℕ) (line : List ℕ)
    (p2 : Part) (ns2 : List TraceName) (cs2 : List (List ℕ)) (vs2 : List ℕ) (k2 : ℕ) → q ≡ p
    → GoesOn p ns cs vs k line p2 ns2 cs2 vs2 k2 → GoesOn q ns cs vs k line p2 ns2 cs2 vs2 k2
goes_from p q ns cs vs k line p2 ns2 cs2 vs2 k2 e g = subst (λ x. GoesOn x ns cs vs k line p2 ns2 cs2 vs2 k2) (sym e) g

pub stops_from : (p q : Part) (ns : List TraceName) (cs : List (List ℕ)) (vs : List ℕ) (k : ℕ) (line : List ℕ)
    → q ≡ p → StopsAt p ns cs vs k line → StopsAt q ns cs vs k line
stops_from p q ns cs vs k line e g = subst (λ x. StopsAt x ns cs vs k line) (sym e) g

-- a name
pub name_found : (i : ℕ) (line : List ℕ) (found : Option TraceName) (n : TraceName)
    → FindsName i line (option_map (λ name. (name.width, name.text)) found) → found ≡ Some n → IsWide n × IsPlain n
    × (line ≡ name_line i n)
name_found i line found n f e = let h : FindsName i line (Some (n.width, n.text)) = subst
    (λ x. FindsName i line (option_map (λ (name : TraceName). (name.width, name.text)) x)) e f in ((h.0, h.1), h.2, h.3)

pub name_missing : (i j : ℕ) (line : List ℕ) (found : Option TraceName)
    → FindsName i line (option_map (λ name. (name.width, name.text)) found) → found ≡ None → i ≡ j
    → FindsName j line None
name_missing i j line found f e s = let h : FindsName i line None = subst
    (λ x. FindsName i line (option_map (λ (name : TraceName). (name.width, name.text)) x)) e f
    in subst (λ x. FindsName x line None) s h

pub took_name : (q : Part) (ns ns2 : List TraceName) (cs : List (List ℕ)) (vs : List ℕ) (k i : ℕ) (line : List ℕ)
    (n : TraceName) → q ≡ Names → ns2 ≡ ns ++ n ∷ [] → i ≡ length ns → IsReached q ns cs vs k → IsWide n × IsPlain n
    × (line ≡ name_line i n) → GoesOn q ns cs vs k line q ns2 cs vs k
took_name q ns ns2 cs vs k i line n e s l r h =
    subst (λ x. GoesOn x ns cs vs k line x ns2 cs vs k) (sym e)
    (subst (λ x. GoesOn Names ns cs vs k line Names x cs vs k) (sym s)
    (name_step ns cs vs k line n (h.2 ∙ ap (λ x. name_line x n) l) h.0 h.1 (subst (λ x. IsReached x ns cs vs k) e r)))

-- a value at time 0
pub took_value : (q : Part) (ns : List TraceName) (cs : List (List ℕ)) (vs vs2 : List ℕ) (k i v : ℕ) (line : List ℕ)
    → q ≡ Values → vs2 ≡ vs ++ v ∷ [] → i ≡ length vs → FindsValue ns line (Some (i, v)) → IsReached q ns cs vs k
    → GoesOn q ns cs vs k line q ns cs vs2 k
took_value q ns cs vs vs2 k i v line e s l h r =
    subst (λ x. GoesOn x ns cs vs k line x ns cs vs2 k) (sym e)
    (subst (λ x. GoesOn Values ns cs vs k line Values ns cs x k) (sym s)
    (value_step ns cs vs k line h.0 v (subst (λ x. IsAt ns x h.0) l h.1) h.2 (h.3 ∙ ap (λ x. value_line x h.0 v) l)
    (subst (λ x. IsReached x ns cs vs k) e r)))

pub value_missing : (ns : List TraceName) (cs : List (List ℕ)) (vs : List ℕ) (k : ℕ) (line : List ℕ)
    → length vs < length ns → FindsValue ns line None → StopsAt Values ns cs vs k line
value_missing ns cs vs k line l f = value_stop ns cs vs k line None l f (λ x e. cc)

pub value_elsewhere : (ns : List TraceName) (cs : List (List ℕ)) (vs : List ℕ) (k : ℕ) (line : List ℕ) (i v : ℕ)
    → length vs < length ns → FindsValue ns line (Some (i, v)) → (i ≡ length vs → ⊥) → StopsAt Values ns cs vs k line
value_elsewhere ns cs vs k line i v l f d =
    value_stop ns cs vs k line (Some (i, v)) l f (λ x e z. d (same x e ∙ z)) where
      same : (x : ℕ × ℕ) → Some (i, v) ≡ Some x → i ≡ x.0
      same x e = let p : (i, v) ≡ x = cc in ap (λ y. y.0) p

-- fewer values than names
pub values_fewer : (ns : List TraceName) (cs : List (List ℕ)) (vs : List ℕ) (k : ℕ) → IsReached Values ns cs vs k
    → (length vs ≡ length ns → ⊥) → length vs < length ns
values_fewer ns cs vs k s d = let l : length vs ≤ length ns = first_within ns vs s.2 in grind arith

-- a value that changed
pub took_change : (q : Part) (ns : List TraceName) (cs : List (List ℕ)) (vs : List ℕ) (k i v : ℕ) (line : List ℕ)
    → q ≡ Changes → k ≤ i → FindsValue ns line (Some (i, v)) → (get_or vs i 0 ≡ v → ⊥) → IsReached q ns cs vs k
    → GoesOn q ns cs vs k line q ns cs (set vs i v) (i + 1)
took_change q ns cs vs k i v line e l h d r =
    subst (λ x. GoesOn x ns cs vs k line x ns cs (set vs i v) (i + 1)) (sym e)
    (change_step ns cs vs k i line h.0 v l h.1 h.2 h.3 d (subst (λ x. IsReached x ns cs vs k) e r))

pub no_change : (ns : List TraceName) (cs : List (List ℕ)) (vs : List ℕ) (k : ℕ) (line : List ℕ)
    → (line ≡ time_line (length cs + 1) → ⊥) → FindsValue ns line None → IsReached Changes ns cs vs k
    → StopsAt Changes ns cs vs k line
no_change ns cs vs k line t f s = change_stop ns cs vs k line t (change_none ns vs k line f) s

pub other_change : (ns : List TraceName) (cs : List (List ℕ)) (vs : List ℕ) (k i v : ℕ) (line : List ℕ)
    → (line ≡ time_line (length cs + 1) → ⊥) → FindsValue ns line (Some (i, v))
    → (k ≤ i → (get_or vs i 0 ≡ v → ⊥) → ⊥) → IsReached Changes ns cs vs k → StopsAt Changes ns cs vs k line
other_change ns cs vs k i v line t f d s = change_stop ns cs vs k line t (change_other ns vs k line (i, v) f d) s

-- the index of a value is one of the values
pub index_within : (q : Part) (ns : List TraceName) (cs : List (List ℕ)) (vs : List ℕ) (k i v : ℕ) (line : List ℕ)
    → q ≡ Changes → FindsValue ns line (Some (i, v)) → IsReached q ns cs vs k → i < length vs
index_within q ns cs vs k i v line e f r =
    let s : IsReached Changes ns cs vs k = subst (λ x. IsReached x ns cs vs k) e r in
    let m : length vs ≡ length ns = as_many ns vs s.1.values_are in
    let l : i < length ns = at_within ns i f.0 f.1 in
    omega (arith, m, l)

pub bytes_alike : (xs ys zs : List ℕ) (b : Bool) → b ≡ pointwise eqb xs ys → b ≡ true → ys ≡ zs → xs ≡ zs
bytes_alike xs ys zs b e t y = (bytes_decides xs ys).0 (sym e ∙ t) ∙ y

pub bytes_unlike : (xs ys zs : List ℕ) (b : Bool) → b ≡ pointwise eqb xs ys → b ≡ false → ys ≡ zs → xs ≡ zs → ⊥
bytes_unlike xs ys zs b e t y x = false≢true (sym t ∙ e ∙ (bytes_decides xs ys).1 (x ∙ sym y))

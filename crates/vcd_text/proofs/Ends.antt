-- Each state that was reached has a dump to go on with, and where the text may end.
use Rattle.std.proofs.Common.{◌≡◌, ℕ, ◌+◌, ◌-◌, ◌^◌, ◌<◌, min, ◌⊎◌, ◌↔◌, Bool, true, false, ◌==◌, codes, Some, None}
use Rattle.std.proofs.Common.{List, [], ◌∷◌, ◌++◌, length, take, drop, refl, ap, sym, subst, ◌∙◌, inl, inr}
use Rattle.std.proofs.Common.{append_assoc, arith}
use Rattle.std.proofs.lemmas.List.{append_cancel_left, append-nil, length_push, take_at, take-append-drop}
use Rattle.std.proofs.lemmas.List.{length-append}
use Rattle.std.proofs.lemmas.Nat.{pow_pos}
use Rattle.fv_text.specs.declared.trace.Trace.{Trace}
use Rattle.fv_text.specs.declared.trace.TraceName.{TraceName}
use Rattle.vcd_text.specs.declared.reader.Part.{Part}
use Rattle.vcd_text.specs.declared.reader.Part.TheVariants.{Scale, Scope, Names, Definitions, Start, Dump, Values}
use Rattle.vcd_text.specs.declared.reader.Part.TheVariants.{Changes}
use Rattle.vcd_text.specs.declared.reader.Reader.{Reader}
use Rattle.vcd_text.specs.Reading.{IsReadable, IsFront, IsFirstFault, IsNoDump, IsDumpOf}
use Rattle.fv_lines.specs.Cuts.{IsCut, HasNo, whole_lines}
use Rattle.fv_lines.proofs.Parts.{whole_cut, whole_none}
use Rattle.vcd_text.specs.Reached.{AreLeft, AreFirst, AreNames, IsReached, IsSound, Awaits, Takes, Finishes}
use Rattle.vcd_dump.specs.Vcd.{AreValues, with_end, text_of, name_lines, header_lines, value_lines, change_lines}
use Rattle.vcd_dump.specs.Vcd.{time_line, later_lines, cycle_lines, vcd_lines, vcd_text}
use Rattle.vcd_dump.proofs.WriteLemmas.{text_of-append}
use Rattle.vcd_text.proofs.Lists.{all_append, no_lines, first_none, eq_same, differs}
use Rattle.vcd_text.proofs.LineEnds.{dump_lines}

-- zeros for the names without a value
zeros : List TraceName → List ℕ → List ℕ
zeros [] vs = []
zeros (n ∷ ns) [] = 0 ∷ zeros ns []
zeros (n ∷ ns) (v ∷ vs) = zeros ns vs

filled : (ns : List TraceName) (vs : List ℕ) → AreFirst ns vs → AreValues ns (vs ++ zeros ns vs)
unfolding zeros
filled [] [] a = tt
filled [] (v ∷ vs) a = absurd a
filled (n ∷ ns) [] a = (pow_pos n.width, filled ns [] (first_none ns))
filled (n ∷ ns) (v ∷ vs) a = (a.0, filled ns vs a.1)

-- a dump to go on with
pub record HasDump (part : Part) (names : List TraceName) (whole : List (List ℕ)) (values : List ℕ)
    (next : ℕ) : Type 0 where
  pub whose : Trace
  pub readable : IsReadable whose
  pub rest : List (List ℕ)
  pub left : AreLeft part names whole values next whose.names whose.cycles rest

one_cycle : (ns : List TraceName) (c : List ℕ) → AreNames ns → AreValues ns c
    → IsReadable (record { names = ns; cycles = c ∷ [] })
one_cycle ns c n a = record {
  trace = record { some = omega arith; wide = n.wide; values = (a, tt) };
  plain = n.plain;
}

pub has_dump : (part : Part) (ns : List TraceName) (cs : List (List ℕ)) (vs : List ℕ) (k : ℕ)
    → IsReached part ns cs vs k → HasDump part ns cs vs k
has_dump Scale ns cs vs k s = record {
  whose = record { names = []; cycles = [] ∷ [] };
  readable = one_cycle [] [] (record { wide = tt; plain = tt }) tt;
  rest = header_lines [] ++ cycle_lines [] ([] ∷ []);
  left = refl;
}
has_dump Scope ns cs vs k s = record {
  whose = record { names = []; cycles = [] ∷ [] };
  readable = one_cycle [] [] (record { wide = tt; plain = tt }) tt;
  rest = codes "$scope module rvfi_wrapper $end"
      ∷ (name_lines 0 [] ++ codes "$upscope $end" ∷ codes "$enddefinitions $end" ∷ cycle_lines [] ([] ∷ []));
  left = refl;
}
has_dump Names ns cs vs k s = record {
  whose = record { names = ns; cycles = zeros ns [] ∷ [] };
  readable = one_cycle ns (zeros ns []) s.0 (filled ns [] (first_none ns));
  rest = codes "$upscope $end" ∷ codes "$enddefinitions $end" ∷ cycle_lines ns (zeros ns [] ∷ []);
  left = record { others = []; all_are = sym (append-nil ns); left = refl };
}
has_dump Definitions ns cs vs k s = record {
  whose = record { names = ns; cycles = zeros ns [] ∷ [] };
  readable = one_cycle ns (zeros ns []) s.0 (filled ns [] (first_none ns));
  rest = codes "$enddefinitions $end" ∷ cycle_lines ns (zeros ns [] ∷ []);
  left = (refl, refl);
}
has_dump Start ns cs vs k s = record {
  whose = record { names = ns; cycles = zeros ns [] ∷ [] };
  readable = one_cycle ns (zeros ns []) s.0 (filled ns [] (first_none ns));
  rest = cycle_lines ns (zeros ns [] ∷ []);
  left = (refl, refl);
}
has_dump Dump ns cs vs k s = record {
  whose = record { names = ns; cycles = zeros ns [] ∷ [] };
  readable = one_cycle ns (zeros ns []) s.0 (filled ns [] (first_none ns));
  rest = codes "$dumpvars" ∷ (value_lines 0 ns (zeros ns []) ++ codes "$end" ∷ later_lines ns 1 (zeros ns []) []);
  left = (refl, record { first = zeros ns []; later = []; cycles_are = refl; left = refl });
}
has_dump Values ns cs vs k s = record {
  whose = record { names = ns; cycles = (vs ++ zeros ns vs) ∷ [] };
  readable = one_cycle ns (vs ++ zeros ns vs) s.0 (filled ns vs s.2);
  rest = value_lines (length vs) (drop (length vs) ns) (zeros ns vs) ++ codes "$end"
      ∷ later_lines ns 1 (vs ++ zeros ns vs) [];
  left = (refl, record { others = zeros ns vs; later = []; cycles_are = refl; left = refl });
}
has_dump Changes ns cs vs k s = record {
  whose = record { names = ns; cycles = cs ++ vs ∷ [] };
  readable = record {
    trace = record {
      some = let l = length_push cs vs in omega (arith, l);
      wide = s.0.wide;
      values = all_append (AreValues ns) cs (vs ∷ []) s.1.whole_are (s.1.values_are, tt);
    };
    plain = s.0.plain;
  };
  rest = change_lines k (drop k ns) (drop k vs) (drop k vs)
      ++ later_lines ns (length cs + 1) (take k vs ++ drop k vs) [];
  left = (
    refl,
    inl (record {
      others = drop k vs;
      later = [];
      cycles_are = ap (λ z. cs ++ z ∷ []) (sym (take-append-drop k vs));
      left = refl;
    }),
  );
}

-- where a text may not end
some_later : (ns : List TraceName) (t : ℕ) (vs : List ℕ) (cycles xs : List (List ℕ))
    → [] ≡ xs ++ later_lines ns t vs cycles → ⊥
some_later ns t vs [] xs e = no_lines xs (time_line t) [] e
some_later ns t vs (c ∷ cycles) xs e =
    no_lines xs (time_line t) (change_lines 0 ns vs c ++ later_lines ns (t + 1) c cycles) e

some_cycle : (ns : List TraceName) (cycles : List (List ℕ)) → 0 < length cycles → [] ≡ cycle_lines ns cycles → ⊥
some_cycle ns [] l e = omega (arith, l)
some_cycle ns (c ∷ cycles) l e = cc

pub no_end : (part : Part) (ns : List TraceName) (cs : List (List ℕ)) (vs : List ℕ) (k : ℕ) → (cs ≡ [] ⊎ 0 < k)
    → (t : Trace) → IsReadable t → AreLeft part ns cs vs k t.names t.cycles [] → ⊥
no_end Scale ns cs vs k d t r h = cc
no_end Scope ns cs vs k d t r h = cc
no_end Names ns cs vs k d t r h = no_lines (name_lines (length ns) h.others) (codes "$upscope $end")
    (codes "$enddefinitions $end" ∷ cycle_lines t.names t.cycles) h.left
no_end Definitions ns cs vs k d t r h = let e = h.1 in cc
no_end Start ns cs vs k d t r h = some_cycle ns t.cycles r.trace.some h.1
no_end Dump ns cs vs k d t r h = let e = h.1.left in cc
no_end Values ns cs vs k d t r h = no_lines (value_lines (length vs) (drop (length vs) ns) h.1.others) (codes "$end")
    (later_lines ns 1 (vs ++ h.1.others) h.1.later) h.1.left
no_end Changes ns cs vs k d t r h = elim h.1 [
  | inl c ↦ some_later ns (length cs + 1) (take k vs ++ c.others) c.later
      (change_lines k (drop k ns) (drop k vs) c.others) c.left
  | inr c ↦ elim d [
    | inl e ↦ let z : length cs ≡ length {A = List ℕ} [] = ap length e in let y = c.some in omega (arith, z, y)
    | inr l ↦ let y = c.fresh in omega (arith, l, y)
  ]
]

-- where it may, and for which trace alone
abbrev EndsWith : Part → List TraceName → List (List ℕ) → List ℕ → ℕ → Trace → Type 0
EndsWith part ns cs vs k trace = IsReadable trace × AreLeft part ns cs vs k trace.names trace.cycles []
    × ((t : Trace) → IsReadable t → AreLeft part ns cs vs k t.names t.cycles [] → t ≡ trace)

some_whole : (cs : List (List ℕ)) → 0 < length cs → cs ≡ [] → ⊥
some_whole cs l e = let z : length cs ≡ length {A = List ℕ} [] = ap length e in omega (arith, z, l)

abbrev trace_of : List TraceName → List (List ℕ) → Trace
trace_of ns cs = record { names = ns; cycles = cs }

pub an_end : (part : Part) (ns : List TraceName) (cs : List (List ℕ)) (vs : List ℕ) (k : ℕ) → 0 < length cs → k ≡ 0
    → IsReached part ns cs vs k → EndsWith part ns cs vs k (record { names = ns; cycles = cs })
an_end Scale ns cs vs k l z s = absurd (some_whole cs l s.1.none)
an_end Scope ns cs vs k l z s = absurd (some_whole cs l s.1.none)
an_end Names ns cs vs k l z s = absurd (some_whole cs l s.1.none)
an_end Definitions ns cs vs k l z s = absurd (some_whole cs l s.1.none)
an_end Start ns cs vs k l z s = absurd (some_whole cs l s.1.none)
an_end Dump ns cs vs k l z s = absurd (some_whole cs l s.1.none)
an_end Values ns cs vs k l z s = absurd (some_whole cs l s.1)
an_end Changes ns cs vs k l z s = (
  record { trace = record { some = l; wide = s.0.wide; values = s.1.whole_are }; plain = s.0.plain },
  (refl, inr (record { some = l; fresh = z; cycles_are = refl; left = refl })),
  λ t r h. elim h.1 [
    | inl c ↦ absurd (some_later ns (length cs + 1) (take k vs ++ c.others) c.later
        (change_lines k (drop k ns) (drop k vs) c.others) c.left)
    | inr c ↦ ap (λ x. trace_of x t.cycles) h.0 ∙ ap (λ x. trace_of ns x) c.cycles_are
  ],
)

-- how far a text was read: the lines so far, what is left of it, the place of the next line, and the reader
pub record IsRead (bytes rest : List ℕ) (place : ℕ) (r : Reader) : Type 0 where
  pub before : List (List ℕ)
  pub bytes_are : bytes ≡ text_of before ++ rest
  pub lines_are : whole_lines bytes ≡ before ++ whole_lines rest
  pub place_is : place ≡ min (length before + 1) (2 ^ 32 - 1)
  pub sound : IsSound r
  pub awaits : (t : Trace) (more : List (List ℕ)) → IsReadable t → Awaits r t more ↔ (vcd_lines t ≡ before ++ more)

pub read_line : (bytes rest line behind : List ℕ) (place next : ℕ) (old new : Reader) → IsRead bytes rest place old
    → IsCut 10 rest line behind → Takes old line true new → next ≡ min (place + 1) (2 ^ 32 - 1)
    → IsRead bytes behind next new
read_line bytes rest line behind place next old new i c t n =
    let p : length (i.before ++ line ∷ []) ≡ length i.before + 1 = length_push i.before line in
    let q = i.place_is in
    record {
      before = i.before ++ line ∷ [];
      bytes_are = i.bytes_are ∙ ap (λ z. text_of i.before ++ z) (c.0 ∙ sym (append_assoc line (10 ∷ []) behind))
          ∙ sym (append_assoc (text_of i.before) (with_end line) behind)
          ∙ ap (λ z. z ++ behind) (sym (text_of-append i.before (line ∷ [])
          ∙ ap (λ z. text_of i.before ++ z) (append-nil (with_end line))));
      lines_are = i.lines_are ∙ ap (λ z. i.before ++ z) (ap whole_lines c.0 ∙ whole_cut line behind c.1)
          ∙ sym (append_assoc i.before (line ∷ []) (whole_lines behind));
      place_is = omega (arith, p, q, n);
      sound = t.0;
      awaits = λ u more r.
          let a = t.1 u more r in
          let b = i.awaits u (line ∷ more) r in
          let e : (i.before ++ line ∷ []) ++ more ≡ i.before ++ line ∷ more = append_assoc i.before (line ∷ []) more in
          (λ h. b.0 (a.0 h) ∙ sym e, λ h. a.1 (b.1 (h ∙ e)));
    }

leads_on : (bytes rest : List ℕ) (place : ℕ) (r : Reader) → (i : IsRead bytes rest place r) → IsFront i.before
leads_on bytes rest place r i =
    let d = has_dump r.part r.names.items r.cycles.items r.values.items r.next i.sound in
    record {
      whose = d.whose;
      readable = d.readable;
      rest = d.rest;
      same = (i.awaits d.whose d.rest d.readable).0 d.left;
    }

front_so_far : (bytes rest : List ℕ) (place : ℕ) (r : Reader) → (i : IsRead bytes rest place r)
    → IsFront (take (length i.before) (whole_lines bytes))
front_so_far bytes rest place r i = subst IsFront
    (sym (ap (take (length i.before)) i.lines_are ∙ take_at i.before (whole_lines rest) (length i.before) refl))
    (leads_on bytes rest place r i)

-- a line that no dump has here
pub refuses_line : (bytes rest line behind : List ℕ) (place : ℕ) (old new : Reader) → IsRead bytes rest place old
    → IsCut 10 rest line behind → Takes old line false new → IsNoDump bytes × IsFirstFault bytes place
refuses_line bytes rest line behind place old new i c s =
    let e : whole_lines bytes ≡ i.before ++ line ∷ whole_lines behind = i.lines_are
    ∙ ap (λ z. i.before ++ z) (ap whole_lines c.0 ∙ whole_cut line behind c.1) in
    let f : whole_lines bytes ≡ (i.before ++ line ∷ []) ++ whole_lines behind = e
    ∙ sym (append_assoc i.before (line ∷ []) (whole_lines behind)) in
    let g : take (length i.before + 1) (whole_lines bytes) ≡ i.before ++ line
    ∷ [] = ap (take (length i.before + 1)) f
    ∙ take_at (i.before ++ line ∷ []) (whole_lines behind) (length i.before + 1) (length_push i.before line) in
    let m : length (whole_lines bytes) ≡ length i.before + length (line ∷ whole_lines behind) = ap length e
    ∙ length-append i.before (line ∷ whole_lines behind) in (
      λ t r h. s t (whole_lines behind) r ((i.awaits t (line ∷ whole_lines behind) r).1 (dump_lines t bytes r h ∙ e)),
      record {
        before = length i.before;
        place = i.place_is;
        within = omega (arith, m);
        leads = front_so_far bytes rest place old i;
        stops = λ l h. no_front (subst IsFront g h);
      },
    ) where
      no_front : IsFront (i.before ++ line ∷ []) → ⊥
      no_front h = s h.whose h.rest h.readable
          ((i.awaits h.whose (line ∷ h.rest) h.readable).1 (h.same ∙ append_assoc i.before (line ∷ []) h.rest))

fault_at_end : (bytes rest : List ℕ) (place : ℕ) (r : Reader) → IsRead bytes rest place r → HasNo 10 rest
    → IsFirstFault bytes place
fault_at_end bytes rest place r i n =
    let e : whole_lines bytes ≡ i.before ++ [] = i.lines_are ∙ ap (λ z. i.before ++ z) (whole_none rest n) in
    let m : length (whole_lines bytes) ≡ length i.before = ap length (e ∙ append-nil i.before) in
    record {
      before = length i.before;
      place = i.place_is;
      within = omega (arith, m);
      leads = front_so_far bytes rest place r i;
      stops = λ l h. omega (arith, l, m);
    }

whole_so_far : (bytes rest : List ℕ) (place : ℕ) (r : Reader) → (i : IsRead bytes rest place r) → HasNo 10 rest
    → (t : Trace) → IsReadable t → vcd_text t ≡ bytes → vcd_lines t ≡ i.before ++ []
whole_so_far bytes rest place r i n t d h =
    dump_lines t bytes d h ∙ i.lines_are ∙ ap (λ z. i.before ++ z) (whole_none rest n)

-- bytes behind the last LF
pub refuses_rest : (bytes rest : List ℕ) (place : ℕ) (r : Reader) → IsRead bytes rest place r → HasNo 10 rest
    → (rest ≡ [] → ⊥) → IsNoDump bytes × IsFirstFault bytes place
refuses_rest bytes rest place r i n s = (λ t d h. s (nothing t d h), fault_at_end bytes rest place r i n) where
  nothing : (t : Trace) → IsReadable t → vcd_text t ≡ bytes → rest ≡ []
  nothing t d h =
      let a : text_of (vcd_lines t) ≡ text_of i.before = ap text_of
      (whole_so_far bytes rest place r i n t d h ∙ append-nil i.before) in
      let b : text_of i.before ++ rest ≡ text_of i.before ++ [] = sym i.bytes_are ∙ sym h ∙ a
      ∙ sym (append-nil (text_of i.before)) in
      append_cancel_left (text_of i.before) rest [] b

-- a text that ends too early
pub refuses_end : (bytes rest : List ℕ) (place : ℕ) (r : Reader) → IsRead bytes rest place r → rest ≡ []
    → Finishes r None → IsNoDump bytes × IsFirstFault bytes place
refuses_end bytes rest place r i z f =
    let n : HasNo 10 rest = subst (HasNo 10) (sym z) refl in (
      λ t d h. f t d ((i.awaits t [] d).1
          (whole_so_far bytes rest place r i n t d h)),
      fault_at_end bytes rest place r i n,
    )

-- a text that was read whole
pub reads_all : (bytes rest : List ℕ) (place : ℕ) (r : Reader) (trace : Trace) → IsRead bytes rest place r
    → rest ≡ [] → Finishes r (Some trace) → IsDumpOf bytes trace
reads_all bytes rest place r trace i z f =
    let n : HasNo 10 rest = subst (HasNo 10) (sym z) refl in
    record {
      readable = f.0;
      same = ap text_of ((i.awaits trace [] f.0).0 f.1 ∙ append-nil i.before) ∙ sym (append-nil (text_of i.before))
          ∙ ap (λ x. text_of i.before ++ x) (sym z) ∙ sym i.bytes_are;
      only = λ t d h. f.2 t d ((i.awaits t [] d).1 (whole_so_far bytes rest place r i n t d h));
    }

pub ends_as : (r : Reader) (names : List TraceName) (cycles : List (List ℕ)) → names ≡ r.names.items
    → cycles ≡ r.cycles.items → 0 < length r.cycles.items → r.next ≡ 0 → IsSound r
    → EndsWith r.part r.names.items r.cycles.items r.values.items r.next (record { names = names; cycles = cycles })
ends_as r names cycles e f l z s =
    subst (λ x. EndsWith r.part r.names.items r.cycles.items r.values.items r.next (trace_of x cycles)) (sym e)
    (subst (λ x. EndsWith r.part r.names.items r.cycles.items r.values.items r.next (trace_of r.names.items x)) (sym f)
    (an_end r.part r.names.items r.cycles.items r.values.items r.next l z s))

-- whether there is a whole cycle
pub none_whole : (cs : List (List ℕ)) (b : Bool) (n : ℕ) → b ≡ (n == 0) → b ≡ true → n ≡ length cs → cs ≡ []
none_whole [] b n e t l = refl
none_whole (c ∷ cs) b n e t l = absurd (let z : n ≡ 0 = eq_same n 0 (sym e ∙ t) in omega (arith, z, l))

pub one_whole : (cs : List (List ℕ)) (b : Bool) (n : ℕ) → b ≡ (n == 0) → b ≡ false → n ≡ length cs → 0 < length cs
one_whole [] b n e t l = absurd (differs n 0 (sym e ∙ t) (omega (arith, l)))
one_whole (c ∷ cs) b n e t l = omega arith

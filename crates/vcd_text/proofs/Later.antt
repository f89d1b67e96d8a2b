-- What each line makes of the lines still to come, behind the values at time 0.
use Rattle.std.proofs.Common.{◌≡◌, ℕ, zero, suc, ◌+◌, ◌-◌, ◌^◌, ◌<◌, ◌≤◌, ◌⊎◌, ◌↔◌, codes, Some, None, List, [], ◌∷◌}
use Rattle.std.proofs.Common.{◌++◌, length, take, drop, get_or, set, refl, ap, sym, subst, ◌∙◌, inl, inr}
use Rattle.std.proofs.Common.{append_assoc, arith}
use Rattle.std.proofs.lemmas.List.{length_push, take_all, drop_all, take-append-drop, drop-drop, take_more_set}
use Rattle.std.proofs.lemmas.List.{drop-set-lt, drop_at, get_or-drop, length-drop}
use Rattle.fv_text.specs.declared.trace.Trace.{Trace}
use Rattle.fv_text.specs.declared.trace.TraceName.{TraceName}
use Rattle.vcd_text.specs.declared.reader.Part.TheVariants.{Values, Changes}
use Rattle.vcd_text.specs.Reading.{IsAt, IsReadable, FindsValue}
use Rattle.vcd_text.specs.Reached.{IsCycleLeft, IsNoneLeft, AreFirst, AreNames, IsReached, GoesOn, StopsAt}
use Rattle.vcd_dump.specs.Vcd.{AreValues, value_line, value_lines, change_lines, time_line, later_lines}
use Rattle.vcd_dump.proofs.WriteLemmas.{as_many}
use Rattle.vcd_text.proofs.Alike.{value_line_same, value_not_time}
use Rattle.vcd_text.proofs.Changes.{AreChanges, first_change, changes_at, no_changes}
use Rattle.vcd_text.proofs.Lists.{all_append, lines_same, lines_are, one_line, at_within, at_behind, at_drop}
use Rattle.vcd_text.proofs.Lists.{values_behind, values_rest, values_none, first_all, no_value_lines, cycle_values}

-- the end of the values at time 0
end_from_none : (ns : List TraceName) (vs : List ℕ) (k0 k : ℕ) (line : List ℕ) → line ≡ codes "$end"
    → length vs ≡ length ns → k ≡ length vs → AreNames ns → AreFirst ns vs
    → GoesOn Values ns [] vs k0 line Changes ns [] vs k
end_from_none ns vs k0 k line l m i n a =
    let p : take k vs ≡ vs = take_all k vs (omega (arith, i)) in
    let q : drop k ns ≡ [] = drop_all k ns (omega (arith, i, m)) in
    let q0 : drop (length vs) ns ≡ [] = drop_all (length vs) ns (omega (arith, m)) in (
      (
        n,
        record {
          whole_are = tt;
          values_are = first_all ns vs a m;
          within = omega (arith, i, m);
          first = λ e. i
              ∙ m;
        },
      ),
      λ t rest r. (
        λ h. (
          h.0,
          elim h.1 [
            | inl c ↦
                let z : c.others ≡ [] = values_none (drop k ns) c.others q
                (values_rest k ns vs c.others (omega (arith, i))
                (cycle_values t r ns [] (take k vs ++ c.others) c.later h.0 c.cycles_are)) in
                let s : take k vs ++ c.others ≡ vs ++ [] = ap (λ x. x ++ c.others) p ∙ ap (λ x. vs ++ x) z in
                record {
                  others = [];
                  later = c.later;
                  cycles_are = c.cycles_are ∙ ap (λ x. x ∷ c.later) s;
                  left = lines_are line (codes "$end") rest (later_lines ns 1 (vs ++ []) c.later) l
                      (c.left ∙ ap (λ x. change_lines k x (drop k vs) c.others
                      ++ later_lines ns 1 (take k vs ++ c.others) c.later) q ∙ ap (λ x. later_lines ns 1 x c.later) s)
                      ∙ ap (λ x. x ++ codes "$end" ∷ later_lines ns 1 (vs ++ []) c.later)
                      (sym (no_value_lines (length vs) (drop (length vs) ns)));
                }
            | inr c ↦ absurd (let b : 0 < length {A = List ℕ} [] = c.some in omega (arith, b))
          ],
        ),
        λ h.
            let c = h.1 in
            let v : AreValues ns (vs ++ c.others) = cycle_values t r ns [] (vs ++ c.others) c.later h.0 c.cycles_are in
            let z : c.others ≡ [] = values_none (drop (length vs) ns) c.others q0
            (subst (AreValues (drop (length vs) ns)) (drop_at vs c.others (length vs) refl)
            (values_behind (length vs) ns (vs ++ c.others) v)) in
            let s : vs ++ c.others ≡ take k vs ++ [] = ap (λ x. vs ++ x) z ∙ ap (λ x. x ++ []) (sym p) in
            let e : line ∷ rest ≡ codes "$end" ∷ later_lines ns 1 (vs ++ c.others) c.later = c.left
            ∙ ap (λ x. value_lines (length vs) (drop (length vs) ns) x ++ codes "$end"
            ∷ later_lines ns 1 (vs ++ c.others) c.later) z
            ∙ ap (λ x. x ++ codes "$end" ∷ later_lines ns 1 (vs ++ c.others) c.later)
            (no_value_lines (length vs) (drop (length vs) ns)) in (
              h.0,
              inl (record {
                others = [];
                later = c.later;
                cycles_are = c.cycles_are ∙ ap (λ x. x ∷ c.later) s;
                left = (lines_same line (codes "$end") rest (later_lines ns 1 (vs ++ c.others) c.later) e).1
                    ∙ ap (λ x. later_lines ns 1 x c.later) s
                    ∙ ap (λ x. change_lines k x (drop k vs) [] ++ later_lines ns 1 (take k vs ++ []) c.later) (sym q);
              }),
            ),
      ),
    )

pub end_step : (ns : List TraceName) (cs : List (List ℕ)) (vs : List ℕ) (k0 k : ℕ) (line : List ℕ)
    → line ≡ codes "$end" → length vs ≡ length ns → k ≡ length vs → IsReached Values ns cs vs k0
    → GoesOn Values ns cs vs k0 line Changes ns cs vs k
end_step ns cs vs k0 k line l m i s = subst (λ z. GoesOn Values ns z vs k0 line Changes ns z vs k) (sym s.1)
    (end_from_none ns vs k0 k line l m i s.0 s.2)

pub end_stop : (ns : List TraceName) (cs : List (List ℕ)) (vs : List ℕ) (k : ℕ) (line : List ℕ)
    → (line ≡ codes "$end" → ⊥) → length vs ≡ length ns → StopsAt Values ns cs vs k line
end_stop ns cs vs k line n m = λ t rest r h.
    let c = h.1 in
    let q0 : drop (length vs) ns ≡ [] = drop_all (length vs) ns (omega (arith, m)) in
    let e : line ∷ rest ≡ codes "$end" ∷ later_lines ns 1 (vs ++ c.others) c.later = c.left
    ∙ ap (λ x. value_lines (length vs) x c.others ++ codes "$end" ∷ later_lines ns 1 (vs ++ c.others) c.later) q0 in
    n (lines_same line (codes "$end") rest (later_lines ns 1 (vs ++ c.others) c.later) e).0

-- what stands behind the line of a time
abbrev behind_time : List TraceName → ℕ → List ℕ → List (List ℕ) → List (List ℕ)
behind_time ns t vs [] = []
behind_time ns t vs (c ∷ cycles) = change_lines 0 ns vs c ++ later_lines ns (t + 1) c cycles

later_is : (ns : List TraceName) (t : ℕ) (vs : List ℕ) (cycles : List (List ℕ))
    → later_lines ns t vs cycles ≡ time_line t ∷ behind_time ns t vs cycles
later_is ns t vs [] = refl
later_is ns t vs (c ∷ cycles) = refl

-- the first line that a state of changes awaits
changes_from : (ns : List TraceName) (cs : List (List ℕ)) (vs : List ℕ) (k : ℕ) (line : List ℕ) (t : Trace)
    (rest : List (List ℕ)) → IsReadable t → AreValues ns vs → k ≤ length ns → t.names ≡ ns
    → (c : IsCycleLeft ns cs vs k t.cycles (line ∷ rest))
    → AreChanges k (drop k ns) (drop k vs) c.others line
    (time_line (length cs + 1) ∷ behind_time ns (length cs + 1) (take k vs ++ c.others) c.later) rest
changes_from ns cs vs k line t rest r a w e c =
    let m : length vs ≡ length ns = as_many ns vs a in
    let l : k ≤ length vs = omega (arith, m, w) in
    first_change k (drop k ns) (drop k vs) c.others line
    (time_line (length cs + 1) ∷ behind_time ns (length cs + 1) (take k vs ++ c.others) c.later) rest
    (values_behind k ns vs a)
    (values_rest k ns vs c.others l (cycle_values t r ns cs (take k vs ++ c.others) c.later e c.cycles_are))
    (c.left ∙ ap (λ x. change_lines k (drop k ns) (drop k vs) c.others ++ x)
    (later_is ns (length cs + 1) (take k vs ++ c.others) c.later))

-- behind the line of a time: a cycle more, or none
time_from : (ns : List TraceName) (cs : List (List ℕ)) (vs : List ℕ) (cycles rest : List (List ℕ))
    (later : List (List ℕ)) → cycles ≡ cs ++ vs ∷ later → rest ≡ behind_time ns (length cs + 1) vs later
    → IsCycleLeft ns (cs ++ vs ∷ []) vs 0 cycles rest ⊎ IsNoneLeft (cs ++ vs ∷ []) 0 cycles rest
time_from ns cs vs cycles rest [] e f =
    inr (record { some = let l = length_push cs vs in omega (arith, l); fresh = refl; cycles_are = e; left = f })
time_from ns cs vs cycles rest (o ∷ later) e f = inl (record {
  others = o;
  later = later;
  cycles_are = e ∙ sym (append_assoc cs (vs ∷ []) (o ∷ later));
  left = f ∙ ap (λ z. change_lines 0 ns vs o ++ later_lines ns (z + 1) o later) (sym (length_push cs vs));
})

time_back : (ns : List TraceName) (cs : List (List ℕ)) (vs : List ℕ) (k : ℕ) (line : List ℕ)
    (cycles rest : List (List ℕ)) (later : List (List ℕ)) → line ≡ time_line (length cs + 1)
    → cycles ≡ cs ++ vs ∷ later → rest ≡ behind_time ns (length cs + 1) vs later
    → IsCycleLeft ns cs vs k cycles (line ∷ rest)
time_back ns cs vs k line cycles rest later l e f =
    let w : take k vs ++ drop k vs ≡ vs = take-append-drop k vs in
    record {
      others = drop k vs;
      later = later;
      cycles_are = e ∙ ap (λ z. cs ++ z ∷ later) (sym w);
      left = lines_are line (time_line (length cs + 1)) rest (behind_time ns (length cs + 1) vs later) l f
          ∙ sym (later_is ns (length cs + 1) vs later) ∙ ap (λ z. later_lines ns (length cs + 1) z later) (sym w)
          ∙ ap (λ z. z ++ later_lines ns (length cs + 1) (take k vs ++ drop k vs) later)
          (sym (no_changes k (drop k ns) (drop k vs)));
    }

pub time_step : (ns : List TraceName) (cs : List (List ℕ)) (vs : List ℕ) (k : ℕ) (line : List ℕ)
    → line ≡ time_line (length cs + 1) → IsReached Changes ns cs vs k
    → GoesOn Changes ns cs vs k line Changes ns (cs ++ vs ∷ []) vs 0
time_step ns cs vs k line l s = (
  (
    s.0,
    record {
      whole_are = all_append (AreValues ns) cs (vs ∷ []) s.1.whole_are (s.1.values_are, tt);
      values_are = s.1.values_are;
      within = omega arith;
      first = λ e. absurd (let z : length (cs ++ vs ∷ []) ≡ length {A = List ℕ} [] = ap length e
          in let y : length (cs ++ vs ∷ []) ≡ length cs + 1 = length_push cs vs in omega (arith, z, y));
    },
  ),
  λ t rest r. (
    λ h. (
      h.0,
      inl (elim h.1 [
        | inl c ↦ time_back ns cs vs k line t.cycles rest (c.others ∷ c.later) l
            (c.cycles_are ∙ append_assoc cs (vs ∷ []) (c.others ∷ c.later))
            (c.left ∙ ap (λ z. change_lines 0 ns vs c.others ++ later_lines ns (z + 1) c.others c.later)
            (length_push cs vs))
        | inr c ↦ time_back ns cs vs k line t.cycles rest [] l c.cycles_are c.left
      ]),
    ),
    λ h. (
      h.0,
      elim h.1 [
        | inl c ↦ elim (changes_from ns cs vs k line t rest r s.1.values_are s.1.within h.0 c) [
          | inl x ↦
              let w : take k vs ++ c.others ≡ vs = ap (λ z. take k vs ++ z) x.0 ∙ take-append-drop k vs in
              time_from ns cs vs t.cycles rest c.later (c.cycles_are ∙ ap (λ z. cs ++ z ∷ c.later) w)
              (sym (lines_same (time_line (length cs + 1)) line
              (behind_time ns (length cs + 1) (take k vs ++ c.others) c.later) rest x.1).1
              ∙ ap (λ z. behind_time ns (length cs + 1) z c.later) w)
          | inr x ↦ absurd (value_not_time (k + x.place) x.value (length cs + 1) x.name x.fits (sym x.line_is ∙ l))
        ]
        | inr c ↦ absurd (one_line line rest c.left)
      ],
    ),
  ),
)

-- the place of a changed value among all values
place_taken : (vs : List ℕ) (k d v : ℕ) → k + d < length vs
    → take (k + d + 1) (set vs (k + d) v) ≡ take k vs ++ (take d (drop k vs) ++ v ∷ [])
place_taken vs k d v l = take_more_set vs (k + d) v l ∙ ap (λ z. z ++ v ∷ []) (front vs k d)
    ∙ append_assoc (take k vs) (take d (drop k vs)) (v ∷ []) where
      front : (vs : List ℕ) (k d : ℕ) → take (k + d) vs ≡ take k vs ++ take d (drop k vs)
      front vs zero d = ap (λ z. take z vs) (let e : 0 + d ≡ d = omega arith in e)
      front [] (suc k) zero = ap (λ z. take z []) (let e : suc k + 0 ≡ suc k = omega arith in e)
      front [] (suc k) (suc d) = ap (λ z. take z []) (let e : suc k + suc d ≡ suc (k + suc d) = omega arith in e)
      front (x ∷ vs) (suc k) d =
          ap (λ z. take z (x ∷ vs)) (let e : suc k + d ≡ suc (k + d) = omega arith in e)
          ∙ ap (λ z. x ∷ z) (front vs k d)

cycle_is : (vs : List ℕ) (k d v : ℕ) (os : List ℕ) → k + d < length vs
    → take (k + d + 1) (set vs (k + d) v) ++ os ≡ take k vs ++ (take d (drop k vs) ++ v ∷ os)
cycle_is vs k d v os l = ap (λ z. z ++ os) (place_taken vs k d v l)
    ∙ append_assoc (take k vs) (take d (drop k vs) ++ v ∷ []) os
    ∙ ap (λ z. take k vs ++ z) (append_assoc (take d (drop k vs)) (v ∷ []) os)

names_behind : (ns : List TraceName) (k d : ℕ) → drop (suc d) (drop k ns) ≡ drop (k + d + 1) ns
names_behind ns k d = drop-drop (suc d) k ns ∙ ap (λ z. drop z ns) (let e : k + suc d ≡ k + d + 1 = omega arith in e)

values_same_behind : (vs : List ℕ) (k d v : ℕ) → drop (suc d) (drop k vs) ≡ drop (k + d + 1) (set vs (k + d) v)
values_same_behind vs k d v = drop-drop (suc d) k vs
    ∙ ap (λ z. drop z vs) (let e : k + suc d ≡ k + d + 1 = omega arith in e)
    ∙ sym (drop-set-lt (k + d + 1) vs (k + d) v (omega arith))

-- a changed value, d places behind the next
change_on : (ns : List TraceName) (cs : List (List ℕ)) (vs : List ℕ) (k d : ℕ) (line : List ℕ) (n : TraceName)
    (v : ℕ) → k + d < length ns → IsAt ns (k + d) n → v < 2 ^ n.width → line ≡ value_line (k + d) n v
    → (get_or vs (k + d) 0 ≡ v → ⊥) → IsReached Changes ns cs vs k → (t : Trace) (rest : List (List ℕ))
    → IsReadable t → t.names ≡ ns → IsCycleLeft ns cs (set vs (k + d) v) (k + d + 1) t.cycles rest
    ↔ IsCycleLeft ns cs vs k t.cycles (line ∷ rest)
change_on ns cs vs k d line n v w a f l x s t rest r e =
    let m : length vs ≡ length ns = as_many ns vs s.1.values_are in
    let wv : k + d < length vs = omega (arith, m, w) in (
      λ c.
          let y = cycle_is vs k d v c.others wv in
          let dl : length (drop k vs) ≡ length vs - k = length-drop k vs in
          let g : get_or (drop k vs) d 0 ≡ get_or vs (k + d) 0 = get_or-drop k vs d 0 in
          let b : IsAt (drop k ns) d n = at_in k ns d n a in
          let more = later_lines ns (length cs + 1) (take k vs ++ (take d (drop k vs) ++ v ∷ c.others)) c.later in
          record {
            others = take d (drop k vs) ++ v ∷ c.others;
            later = c.later;
            cycles_are = c.cycles_are ∙ ap (λ z. cs ++ z ∷ c.later) y;
            left = lines_are line (value_line (k + d) n v) rest
                (change_lines (k + d + 1) (drop (suc d) (drop k ns)) (drop (suc d) (drop k vs)) c.others ++ more) l
                (c.left ∙ ap (λ z. change_lines (k + d + 1) (drop (k + d + 1) ns)
                (drop (k + d + 1) (set vs (k + d) v)) c.others ++ later_lines ns (length cs + 1) z c.later) y
                ∙ ap (λ z. change_lines (k + d + 1) z (drop (k + d + 1) (set vs (k + d) v)) c.others ++ more)
                (sym (names_behind ns k d))
                ∙ ap (λ z. change_lines (k + d + 1) (drop (suc d) (drop k ns)) z c.others ++ more)
                (sym (values_same_behind vs k d v)))
                ∙ ap (λ z. z ++ more) (sym (changes_at k (drop k ns) (drop k vs) d v n c.others
                (values_behind k ns vs s.1.values_are) (omega (arith, dl, wv)) b (λ q. x (sym g ∙ q))));
          },
      λ c. elim (changes_from ns cs vs k line t rest r s.1.values_are s.1.within e c) [
        | inl y ↦ absurd (value_not_time (k + d) v (length cs + 1) n f
            (sym l ∙ sym (lines_same (time_line (length cs + 1)) line
            (behind_time ns (length cs + 1) (take k vs ++ c.others) c.later) rest y.1).0))
        | inr y ↦
            let q = value_line_same (k + y.place) (k + d) y.value v y.name n y.fits f (sym y.line_is ∙ l) in
            let p : y.place ≡ d = omega (arith, q.0) in
            let o : c.others ≡ take d (drop k vs) ++ v ∷ y.others = y.values_are
            ∙ ap (λ z. take z (drop k vs) ++ y.value ∷ y.others) p
            ∙ ap (λ z. take d (drop k vs) ++ z ∷ y.others) q.1 in
            let u : take k vs ++ c.others ≡ take (k + d + 1) (set vs (k + d) v)
            ++ y.others = ap (λ z. take k vs ++ z) o ∙ sym (cycle_is vs k d v y.others wv) in
            record {
              others = y.others;
              later = c.later;
              cycles_are = c.cycles_are ∙ ap (λ z. cs ++ z ∷ c.later) u;
              left = y.rest_is
                  ∙ ap (λ z. change_lines (k + z + 1) (drop (suc z) (drop k ns)) (drop (suc z) (drop k vs)) y.others
                  ++ (time_line (length cs + 1) ∷ behind_time ns (length cs + 1) (take k vs ++ c.others) c.later)) p
                  ∙ ap (λ z. change_lines (k + d + 1) (drop (suc d) (drop k ns)) (drop (suc d) (drop k vs)) y.others
                  ++ z) (sym (later_is ns (length cs + 1) (take k vs ++ c.others) c.later))
                  ∙ ap (λ z. change_lines (k + d + 1) (drop (suc d) (drop k ns)) (drop (suc d) (drop k vs)) y.others
                  ++ later_lines ns (length cs + 1) z c.later) u
                  ∙ ap (λ z. change_lines (k + d + 1) z (drop (suc d) (drop k vs)) y.others
                  ++ later_lines ns (length cs + 1) (take (k + d + 1) (set vs (k + d) v) ++ y.others) c.later)
                  (names_behind ns k d)
                  ∙ ap (λ z. change_lines (k + d + 1) (drop (k + d + 1) ns) z y.others
                  ++ later_lines ns (length cs + 1) (take (k + d + 1) (set vs (k + d) v) ++ y.others) c.later)
                  (values_same_behind vs k d v);
            }
      ],
    ) where
      at_in : (k : ℕ) (ns : List TraceName) (d : ℕ) (n : TraceName) → IsAt ns (k + d) n → IsAt (drop k ns) d n
      at_in zero ns d n a = subst (λ j. IsAt ns j n) (let e : 0 + d ≡ d = omega arith in e) a
      at_in (suc k) [] d n a = absurd (let h = at_within [] (suc k + d) n a in omega (arith, h))
      at_in (suc k) (m ∷ ns) d n a =
          at_in k ns d n (subst (λ j. IsAt (m ∷ ns) j n) (let e : suc k + d ≡ suc (k + d) = omega arith in e) a)

values_set : (ns : List TraceName) (vs : List ℕ) (j v : ℕ) (n : TraceName) → AreValues ns vs → IsAt ns j n
    → v < 2 ^ n.width → AreValues ns (set vs j v)
values_set [] [] j v n a b f = a
values_set [] (w ∷ vs) j v n a b f = absurd a
values_set (m ∷ ns) [] j v n a b f = absurd a
values_set (m ∷ ns) (w ∷ vs) zero v n a b f = let e : drop 0 (m ∷ ns) ≡ n ∷ drop 1 (m ∷ ns) = at_drop (m ∷ ns) 0 n b
    in (subst (λ x. v < 2 ^ x.width) (sym (heads m n ns e)) f, a.1) where
      heads : (m n : TraceName) (ns : List TraceName) → m ∷ ns ≡ n ∷ ns → m ≡ n
      heads m n ns e = cc
values_set (m ∷ ns) (w ∷ vs) (suc j) v n a b f = (a.0, values_set ns vs j v n a.1 b f)

change_step_at : (ns : List TraceName) (cs : List (List ℕ)) (vs : List ℕ) (k d : ℕ) (line : List ℕ) (n : TraceName)
    (v : ℕ) → IsAt ns (k + d) n → v < 2 ^ n.width → line ≡ value_line (k + d) n v → (get_or vs (k + d) 0 ≡ v → ⊥)
    → IsReached Changes ns cs vs k → GoesOn Changes ns cs vs k line Changes ns cs (set vs (k + d) v) (k + d + 1)
change_step_at ns cs vs k d line n v a f l x s =
    let w : k + d < length ns = at_within ns (k + d) n a in (
      (
        s.0,
        record {
          whole_are = s.1.whole_are;
          values_are = values_set ns vs (k + d) v n s.1.values_are a f;
          within = omega (arith, w);
          first = λ e. absurd (let z : k ≡ length ns = s.1.first e in omega (arith, z, w));
        },
      ),
      λ t rest r. (
        λ h. (
          h.0,
          inl (elim h.1 [
            | inl c ↦ (change_on ns cs vs k d line n v w a f l x s t rest r h.0).0 c
            | inr c ↦ absurd (let z : k + d + 1 ≡ 0 = c.fresh in omega (arith, z))
          ]),
        ),
        λ h. (
          h.0,
          inl (elim h.1 [
            | inl c ↦ (change_on ns cs vs k d line n v w a f l x s t rest r h.0).1 c
            | inr c ↦ absurd (one_line line rest c.left)
          ]),
        ),
      ),
    )

pub change_step : (ns : List TraceName) (cs : List (List ℕ)) (vs : List ℕ) (k j : ℕ) (line : List ℕ) (n : TraceName)
    (v : ℕ) → k ≤ j → IsAt ns j n → v < 2 ^ n.width → line ≡ value_line j n v → (get_or vs j 0 ≡ v → ⊥)
    → IsReached Changes ns cs vs k → GoesOn Changes ns cs vs k line Changes ns cs (set vs j v) (j + 1)
change_step ns cs vs k j line n v w a f l x s =
    let e : k + (j - k) ≡ j = omega (arith, w) in
    subst (λ z. GoesOn Changes ns cs vs k line Changes ns cs (set vs z v) (z + 1)) e
    (change_step_at ns cs vs k (j - k) line n v (subst (λ z. IsAt ns z n) (sym e) a) f
    (l ∙ ap (λ z. value_line z n v) (sym e)) (λ y. x (ap (λ z. get_or vs z 0) (sym e) ∙ y)) s)

-- no time, and no value that changed
pub change_stop : (ns : List TraceName) (cs : List (List ℕ)) (vs : List ℕ) (k : ℕ) (line : List ℕ)
    → (line ≡ time_line (length cs + 1) → ⊥)
    → ((j v : ℕ) (n : TraceName) → k ≤ j → IsAt ns j n → v < 2 ^ n.width → line ≡ value_line j n v
    → (get_or vs j 0 ≡ v → ⊥) → ⊥) → IsReached Changes ns cs vs k → StopsAt Changes ns cs vs k line
change_stop ns cs vs k line g f s = λ t rest r h. elim h.1 [
  | inl c ↦ elim (changes_from ns cs vs k line t rest r s.1.values_are s.1.within h.0 c) [
    | inl y ↦ g (sym (lines_same (time_line (length cs + 1)) line
        (behind_time ns (length cs + 1) (take k vs ++ c.others) c.later) rest y.1).0)
    | inr y ↦ f (k + y.place) y.value y.name (omega arith) (at_behind k ns y.place y.name y.name_is) y.fits y.line_is
        (λ q. y.changed (get_or-drop k vs y.place 0 ∙ q))
  ]
  | inr c ↦ one_line line rest c.left
]

-- what a search for a value found, where it says no change
pub change_none : (ns : List TraceName) (vs : List ℕ) (k : ℕ) (line : List ℕ) → FindsValue ns line None
    → (j v : ℕ) (n : TraceName) → k ≤ j → IsAt ns j n → v < 2 ^ n.width → line ≡ value_line j n v
    → (get_or vs j 0 ≡ v → ⊥) → ⊥
change_none ns vs k line h j v n l a f e x = h j v n a f e

pub change_other : (ns : List TraceName) (vs : List ℕ) (k : ℕ) (line : List ℕ) (found : ℕ × ℕ)
    → FindsValue ns line (Some found) → (k ≤ found.0 → (get_or vs found.0 0 ≡ found.1 → ⊥) → ⊥)
    → (j v : ℕ) (n : TraceName) → k ≤ j → IsAt ns j n → v < 2 ^ n.width → line ≡ value_line j n v
    → (get_or vs j 0 ≡ v → ⊥) → ⊥
change_other ns vs k line found h g j v n l a f e x =
    let q = value_line_same found.0 j found.1 v h.0 n h.2 f (sym h.3 ∙ e) in
    g (omega (arith, l, q.0)) (λ y. x (ap (λ z. get_or vs z 0) (sym q.0) ∙ y ∙ q.1))

-- A text is read as a formula exactly where it says this formula.
use Rattle.std.proofs.Common.{◌≡◌, ℕ, ◌+◌, ◌<◌, ◌≤◌, Bool, true, false, not, cond, ◌&&◌, ◌||◌, ◌==◌, ◌↔◌}
use Rattle.std.proofs.Common.{List, [], ◌∷◌, ◌++◌, length, flat_map, filter, codes, bytes_eq, append_assoc}
use Rattle.std.proofs.Common.{ℤ, pos, negsuc, unsigned_abs, Option, Some, None, Result, Ok, Err}
use Rattle.std.proofs.Common.{refl, ap, sym, subst, ◌∙◌, inl, inr, arith}
use Rattle.std.specs.Option.{ok_or}
use Rattle.std.specs.List.{AllByRecursion, AllZip, list_all}
use Rattle.std.proofs.lemmas.Bool.{false≢true, cases_Bool}
use Rattle.std.proofs.lemmas.Bool.Decides.{nat_tests}
use Rattle.std.proofs.lemmas.Grind.{flat_map-append}
use Rattle.std.proofs.lemmas.List.{append-nil}
use Rattle.std.proofs.lemmas.Slice.Eq.{bytes_eq-Decides}
use Rattle.cnf_form.specs.Cnf.{Cnf, IsLiteral, AreLiterals, AreClauses}
use Rattle.fv_lines.specs.Numbers.{number_up_to}
use Rattle.fv_lines.specs.Words.{is_nil, lines, next_place, words}
use Rattle.cnf_text.specs.declared.fault.DimacsFault.{DimacsFault}
use Rattle.cnf_text.specs.declared.fault.DimacsFault.TheVariants.{Header, Literal, Open, Count}
use Rattle.fv_text.specs.Results.{and_then}
use Rattle.cnf_text.specs.Dimacs.{is_comment, header_of, both, Body, literal_of, is_zero, with_number}
use Rattle.cnf_text.specs.Dimacs.{with_words, with_line, with_lines, finished, read_behind, read_lines, formula_of}
use Rattle.lrat_texts.specs.Numerals.{SaysInteger}
use Rattle.lrat_texts.specs.Formulas.{SaysHeader, is_silent, said_words, with_end, LinesSay, SaysFormula}
use Rattle.lrat_texts.proofs.Numerals.{none_some, and_parts, up_to_said, up_to_read, signed_said, signed_read}
use Rattle.lrat_texts.proofs.Zips.{zip_append, zip_parts, zip_map, zip_also, all_append}

-- ---- answers

abbrev answer : {X : Type 0} → X → Result X DimacsFault
answer x = Ok x

abbrev refusal : {X : Type 0} → DimacsFault → Result X DimacsFault
refusal f = Err f

ok_is : {X : Type 0} (x y : X) → answer x ≡ answer y → x ≡ y
ok_is x y e = cc

err_ok : {X : Type 0} (f : DimacsFault) (x : X) → refusal f ≡ answer x → ⊥
err_ok f x e = cc

went : {X Y : Type 0} (r : Result X DimacsFault) (next : X → Result Y DimacsFault) (y : Y) → and_then r next ≡ Ok y
    → (x : X) × (r ≡ Ok x) × (next x ≡ Ok y)
went (Ok x) next y e = (x, refl, e)
went (Err f) next y e = absurd (err_ok f y e)

found : {X Y : Type 0} (o : Option X) (f : DimacsFault) (next : X → Result Y DimacsFault) (y : Y)
    → and_then (ok_or o f) next ≡ Ok y → (x : X) × (o ≡ Some x) × (next x ≡ Ok y)
found (Some x) f next y e = (x, refl, e)
found None f next y e = absurd (err_ok f y e)

-- ---- one number more

zero_only : (l : ℤ) → is_zero l ≡ true → l ≡ pos 0
zero_only (pos n) h = let e : n ≡ 0 = grind (arith, nat_tests) in ap pos e
zero_only (negsuc n) h = absurd (let e : n + 1 ≡ 0 = grind (arith, nat_tests) in omega arith)

some_size : (l : ℤ) → is_zero l ≡ false → 0 < unsigned_abs l
some_size l h = grind (arith, nat_tests)

module _ (vars : ℕ) where
  -- a word that says a literal of the variables, or 0
  abbrev pub Said : List ℕ → ℤ → Type 0
  Said word l = SaysInteger word l × (unsigned_abs l ≤ vars)

  word_said : (word : List ℕ) (l : ℤ) → literal_of vars word ≡ Some l → Said word l
  word_said word l e =
      let p = signed_said (number_up_to vars) word l e in
      let q = up_to_said vars (unsigned_abs l) _ p.0 in
      (record { size = q.0; sign = p.1 }, q.1)

  word_read : (word : List ℕ) (l : ℤ) → Said word l → literal_of vars word ≡ Some l
  word_read word l s =
      signed_read (number_up_to vars) word l (up_to_read vars (unsigned_abs l) _ s.0.size s.1) s.0.sign

  -- the numbers that were read
  abbrev told : Body → List ℤ
  told b = flat_map with_end b.clauses ++ b.clause

  record IsBody (b : Body) : Type 0 where
    open_one : AreLiterals vars b.clause
    whole : AreClauses vars b.clauses

  -- these numbers more were read
  record Grows (b c : Body) (ns : List ℤ) : Type 0 where
    told_is : told c ≡ told b ++ ns
    keeps : IsBody b → IsBody c

  stays : (b c : Body) → b ≡ c → Grows b c []
  stays b c e = subst (λ x. Grows b x []) e (record { told_is = sym (append-nil (told b)); keeps = λ h. h })

  grows_on : (b c d : Body) (ns ms : List ℤ) → Grows b c ns → Grows c d ms → Grows b d (ns ++ ms)
  grows_on b c d ns ms g h = record {
    told_is = h.told_is ∙ ap (λ t. t ++ ms) g.told_is ∙ append_assoc (told b) ns ms;
    keeps = λ k. h.keeps (g.keeps k);
  }

  ends : (b : Body)
      → Grows b (record { clauses = b.clauses ++ b.clause ∷ []; clause = []; last = b.last }) (pos 0 ∷ [])
  ends b = record {
    told_is = append-nil (flat_map with_end (b.clauses ++ b.clause ∷ []))
        ∙ flat_map-append with_end b.clauses (b.clause ∷ [])
        ∙ ap (λ x. flat_map with_end b.clauses ++ x) (append-nil (b.clause ++ pos 0 ∷ []))
        ∙ sym (append_assoc (flat_map with_end b.clauses) b.clause (pos 0 ∷ []));
    keeps = λ k. record {
      open_one = tt;
      whole = all_append (AreLiterals vars) b.clauses (b.clause ∷ []) k.whole (k.open_one, tt);
    };
  }

  goes_on : (b : Body) (line : ℕ) (l : ℤ) → 0 < unsigned_abs l → unsigned_abs l ≤ vars
      → Grows b (record { clauses = b.clauses; clause = b.clause ++ l ∷ []; last = line }) (l ∷ [])
  goes_on b line l some fits = record {
    told_is = sym (append_assoc (flat_map with_end b.clauses) b.clause (l ∷ []));
    keeps = λ k. record {
      open_one = all_append (IsLiteral vars) b.clause (l ∷ []) k.open_one ((some, fits), tt);
      whole = k.whole;
    };
  }

  pushed : (b : Body) (line : ℕ) (l : ℤ) → unsigned_abs l ≤ vars → Grows b (with_number b line l) (l ∷ [])
  pushed b line l fits =
      let whole : Body = record { clauses = b.clauses ++ b.clause ∷ []; clause = []; last = b.last } in
      let more : Body = record { clauses = b.clauses; clause = b.clause ++ l ∷ []; last = line } in
      elim (cases_Bool (is_zero l)) [
        | inl h ↦ subst (λ c. Grows b c (l ∷ [])) (sym (ap (λ t. cond t whole more) h))
            (subst (λ z. Grows b whole (z ∷ [])) (sym (zero_only l h)) (ends b))
        | inr h ↦ subst (λ c. Grows b c (l ∷ [])) (sym (ap (λ t. cond t whole more) h))
            (goes_on b line l (some_size l h) fits)
      ]

  -- ---- words and lines

  -- the words say numbers, by which the body grew
  record Told (ws : List (List ℕ)) (b c : Body) : Type 0 where
    numbers : List ℤ
    said : AllZip Said ws numbers
    grows : Grows b c numbers

  words_said : (line : ℕ) (b c : Body) (ws : List (List ℕ)) → with_words vars line b ws ≡ Ok c → Told ws b c
  words_said line b c [] e = record { numbers = []; said = tt; grows = stays b c (ok_is b c e) }
  words_said line b c (w ∷ ws) e =
      let f = found (literal_of vars w) (Literal line) (λ l. with_words vars line (with_number b line l) ws) c e in
      let s = word_said w f.0 f.1 in
      let r = words_said line (with_number b line f.0) c ws f.2 in
      record {
        numbers = f.0 ∷ r.numbers;
        said = (s, r.said);
        grows = grows_on b (with_number b line f.0) c (f.0 ∷ []) r.numbers (pushed b line f.0 s.1) r.grows;
      }

  -- the reader comes to a body that grew by the numbers
  record Came (r : Result Body DimacsFault) (b : Body) (ns : List ℤ) : Type 0 where
    body : Body
    comes : r ≡ Ok body
    grows : Grows b body ns

  words_read : (line : ℕ) (b : Body) (ws : List (List ℕ)) (ns : List ℤ) → AllZip Said ws ns
      → Came (with_words vars line b ws) b ns
  words_read line b [] [] z = record { body = b; comes = refl; grows = stays b b refl }
  words_read line b [] (n ∷ ns) z = absurd z
  words_read line b (w ∷ ws) [] z = absurd z
  words_read line b (w ∷ ws) (n ∷ ns) z =
      let r = words_read line (with_number b line n) ws ns z.1 in
      record {
        body = r.body;
        comes = ap (λ o. and_then (ok_or o (Literal line)) (λ l. with_words vars line (with_number b line l) ws))
            (word_read w n z.0) ∙ r.comes;
        grows = grows_on b (with_number b line n) r.body (n ∷ []) ns (pushed b line n z.0.1) r.grows;
      }

  -- the words of a line, where it is no comment
  abbrev line_words : List ℕ → List (List ℕ)
  line_words l = cond (is_comment (words l)) [] (words l)

  words_behind : (l : List ℕ) (ls : List (List ℕ)) → said_words (l ∷ ls) ≡ line_words l ++ said_words ls
  words_behind l ls = by_test (is_comment (words l)) where
    by_test : (t : Bool) → flat_map words (cond (not t) (l ∷ filter (λ x. not (is_comment (words x))) ls)
        (filter (λ x. not (is_comment (words x))) ls)) ≡ cond t [] (words l) ++ said_words ls
    by_test true = refl
    by_test false = refl

  line_said : (line : ℕ) (b c : Body) (l : List ℕ) → with_line vars line b l ≡ Ok c → Told (line_words l) b c
  line_said line b c l e = by_test (is_comment (words l)) e where
    by_test : (t : Bool) → cond t (Ok b) (with_words vars line b (words l)) ≡ Ok c → Told (cond t [] (words l)) b c
    by_test true h = record { numbers = []; said = tt; grows = stays b c (ok_is b c h) }
    by_test false h = words_said line b c (words l) h

  line_read : (line : ℕ) (b : Body) (l : List ℕ) (ns : List ℤ) → AllZip Said (line_words l) ns
      → Came (with_line vars line b l) b ns
  line_read line b l ns z = by_test (is_comment (words l)) ns z where
    by_test : (t : Bool) (ms : List ℤ) → AllZip Said (cond t [] (words l)) ms
        → Came (cond t (Ok b) (with_words vars line b (words l))) b ms
    by_test true [] k = record { body = b; comes = refl; grows = stays b b refl }
    by_test true (m ∷ ms) k = absurd k
    by_test false ms k = words_read line b (words l) ms k

  lines_said : (line : ℕ) (b c : Body) (ls : List (List ℕ)) → with_lines vars line b ls ≡ Ok c
      → Told (said_words ls) b c
  lines_said line b c [] e = record { numbers = []; said = tt; grows = stays b c (ok_is b c e) }
  lines_said line b c (l ∷ ls) e =
      let w = went (with_line vars line b l) (λ d. with_lines vars (next_place line) d ls) c e in
      let one = line_said line b w.0 l w.1 in
      let more = lines_said (next_place line) w.0 c ls w.2 in
      record {
        numbers = one.numbers ++ more.numbers;
        said = subst (λ ws. AllZip Said ws (one.numbers ++ more.numbers)) (sym (words_behind l ls))
            (zip_append Said (line_words l) (said_words ls) one.numbers more.numbers one.said more.said);
        grows = grows_on b w.0 c one.numbers more.numbers one.grows more.grows;
      }

  lines_read : (line : ℕ) (b : Body) (ls : List (List ℕ)) (ns : List ℤ) → AllZip Said (said_words ls) ns
      → Came (with_lines vars line b ls) b ns
  lines_read line b [] [] z = record { body = b; comes = refl; grows = stays b b refl }
  lines_read line b [] (n ∷ ns) z = absurd z
  lines_read line b (l ∷ ls) ns z =
      let p = zip_parts Said (line_words l) (said_words ls) ns
      (subst (λ ws. AllZip Said ws ns) (words_behind l ls) z) in
      let one = line_read line b l p.front p.front_zips in
      let more = lines_read (next_place line) one.body ls p.rest p.rest_zips in
      record {
        body = more.body;
        comes = ap (λ r. and_then r (λ d. with_lines vars (next_place line) d ls)) one.comes ∙ more.comes;
        grows = subst (λ ms. Grows b more.body ms) (sym p.all_is)
            (grows_on b one.body more.body p.front p.rest one.grows more.grows);
      }

  -- ---- the clauses that ended numbers say

  no_end : (open_one d y : List ℤ) → AreLiterals vars open_one → open_one ≡ d ++ pos 0 ∷ y → ⊥
  no_end [] [] y h e = cc
  no_end [] (k ∷ d) y h e = cc
  no_end (l ∷ ls) [] y h e =
      let same : l ≡ pos 0 = cc in
      let some : 0 < unsigned_abs l = h.0.0 in
      let size : unsigned_abs l ≡ 0 = ap unsigned_abs same in
      omega (arith, size, some)
  no_end (l ∷ ls) (k ∷ d) y h e = let rest : ls ≡ d ++ pos 0 ∷ y = cc in no_end ls d y h.1 rest

  first_end : (c d x y : List ℤ) → AreLiterals vars c → AreLiterals vars d → c ++ pos 0 ∷ x ≡ d ++ pos 0 ∷ y
      → (c ≡ d) × (x ≡ y)
  first_end [] [] x y h k e = (refl, let s : x ≡ y = cc in s)
  first_end [] (l ∷ d) x y h k e = absurd
      (let same : l ≡ pos 0 = cc in
      let some : 0 < unsigned_abs l = k.0.0 in
      let size : unsigned_abs l ≡ 0 = ap unsigned_abs same in
      omega (arith, size, some))
  first_end (l ∷ c) [] x y h k e = absurd
      (let same : l ≡ pos 0 = cc in
      let some : 0 < unsigned_abs l = h.0.0 in
      let size : unsigned_abs l ≡ 0 = ap unsigned_abs same in
      omega (arith, size, some))
  first_end (l ∷ c) (m ∷ d) x y h k e =
      let same : l ≡ m = cc in
      let rest : c ++ pos 0 ∷ x ≡ d ++ pos 0 ∷ y = cc in
      let r = first_end c d x y h.1 k.1 rest in
      let heads : l ∷ c ≡ m ∷ c = ap (λ z. z ∷ c) same in
      (heads ∙ ap (λ z. m ∷ z) r.0, r.1)

  one_way : (cs ds : List (List ℤ)) (open_one : List ℤ) → AreClauses vars cs → AreLiterals vars open_one
      → AreClauses vars ds → flat_map with_end cs ++ open_one ≡ flat_map with_end ds → (cs ≡ ds) × (open_one ≡ [])
  one_way [] [] open_one h o k e = (refl, e)
  one_way [] (d ∷ ds) open_one h o k e = absurd
      (no_end open_one d (flat_map with_end ds) o (e ∙ append_assoc d (pos 0 ∷ []) (flat_map with_end ds)))
  one_way (c ∷ cs) [] open_one h o k e =
      absurd (no_end [] c (flat_map with_end cs ++ open_one) tt (sym (shape ∙ e))) where
        shape : c ++ pos 0 ∷ (flat_map with_end cs ++ open_one) ≡ flat_map with_end (c ∷ cs) ++ open_one
        shape = sym (append_assoc (c ++ pos 0 ∷ []) (flat_map with_end cs) open_one
            ∙ append_assoc c (pos 0 ∷ []) (flat_map with_end cs ++ open_one))
  one_way (c ∷ cs) (d ∷ ds) open_one h o k e =
      let left = append_assoc (c ++ pos 0 ∷ []) (flat_map with_end cs) open_one
      ∙ append_assoc c (pos 0 ∷ []) (flat_map with_end cs ++ open_one) in
      let right = append_assoc d (pos 0 ∷ []) (flat_map with_end ds) in
      let p = first_end c d (flat_map with_end cs ++ open_one) (flat_map with_end ds) h.0 k.0 (sym left ∙ e ∙ right) in
      let r = one_way cs ds open_one h.1 o k.1 p.1 in
      (ap (λ z. z ∷ cs) p.0 ∙ ap (λ z. d ∷ z) r.0, r.1)

  clause_fits : (c : List ℤ) → AreLiterals vars c → AllByRecursion (λ l. unsigned_abs l ≤ vars) c
  clause_fits [] h = tt
  clause_fits (l ∷ ls) h = (h.0.1, clause_fits ls h.1)

  clauses_fit : (cs : List (List ℤ)) → AreClauses vars cs
      → AllByRecursion (λ l. unsigned_abs l ≤ vars) (flat_map with_end cs)
  clauses_fit [] h = tt
  clauses_fit (c ∷ cs) h =
      all_append (λ l. unsigned_abs l ≤ vars) (with_end c) (flat_map with_end cs)
      (all_append (λ l. unsigned_abs l ≤ vars) c (pos 0 ∷ []) (clause_fits c h.0) (omega arith, tt))
      (clauses_fit cs h.1)

  -- ---- the lines behind the header

  abbrev none_yet : Body
  none_yet = record { clauses = []; clause = []; last = 0 }

  nil_is : {X : Type 0} (xs : List X) → is_nil xs ≡ true → xs ≡ []
  nil_is [] h = refl
  nil_is (x ∷ xs) h = absurd (false≢true h)

  ended : (count : ℕ) (b : Body) (f : Cnf) → finished vars count b ≡ Ok f
      → (b.clause ≡ []) × (length b.clauses ≡ count) × (record { vars = vars; clauses = b.clauses } ≡ f)
  ended count b f e = by_nil (is_nil b.clause) refl e where
    by_count : (t : Bool) → (length b.clauses == count) ≡ t
        → cond t (Ok (record { vars = vars; clauses = b.clauses })) (Err (Count (length b.clauses) count)) ≡ Ok f
        → (length b.clauses ≡ count) × (record { vars = vars; clauses = b.clauses } ≡ f)
    by_count true h k = (grind (arith, nat_tests), ok_is _ f k)
    by_count false h k = absurd (err_ok (Count (length b.clauses) count) f k)

    by_nil : (t : Bool) → is_nil b.clause ≡ t → cond (not t) (Err (Open b.last))
        (cond (length b.clauses == count) (Ok (record { vars = vars; clauses = b.clauses }))
        (Err (Count (length b.clauses) count))) ≡ Ok f
        → (b.clause ≡ []) × (length b.clauses ≡ count) × (record { vars = vars; clauses = b.clauses } ≡ f)
    by_nil true h k = let p = by_count (length b.clauses == count) refl k in (nil_is b.clause h, p.0, p.1)
    by_nil false h k = absurd (err_ok (Open b.last) f k)

  record Behind (count : ℕ) (ls : List (List ℕ)) (f : Cnf) : Type 0 where
    vars_are : vars ≡ f.vars
    count_is : count ≡ length f.clauses
    numbers : AllZip SaysInteger (said_words ls) (flat_map with_end f.clauses)
    literals : AreClauses vars f.clauses

  behind_said : (count line : ℕ) (ls : List (List ℕ)) (f : Cnf) → read_behind (vars, count) line ls ≡ Ok f
      → Behind count ls f
  behind_said count line ls f e =
      let w = went (with_lines vars line none_yet ls) (finished vars count) f e in
      let t = lines_said line none_yet w.0 ls w.1 in
      let p = ended count w.0 f w.2 in
      let clauses : w.0.clauses ≡ f.clauses = ap (λ (c : Cnf). c.clauses) p.2 in
      let all : t.numbers ≡ flat_map with_end f.clauses = sym t.grows.told_is
      ∙ ap (λ x. flat_map with_end w.0.clauses ++ x) p.0 ∙ append-nil (flat_map with_end w.0.clauses)
      ∙ ap (flat_map with_end) clauses in
      record {
        vars_are = ap (λ (c : Cnf). c.vars) p.2;
        count_is = sym p.1 ∙ ap length clauses;
        numbers = subst (λ ns. AllZip SaysInteger (said_words ls) ns) all
            (zip_map Said SaysInteger (λ w l s. s.0) (said_words ls) t.numbers t.said);
        literals = subst (λ cs. AreClauses vars cs) clauses
            (t.grows.keeps (record { open_one = tt; whole = tt })).whole;
      }

  all_there : (b : Body) (clauses : List (List ℤ)) → b.clauses ≡ clauses → b.clause ≡ []
      → finished vars (length clauses) b ≡ Ok (record { vars = vars; clauses = clauses })
  all_there b clauses e n =
      let size : length b.clauses ≡ length clauses = ap length e in
      let same : (length b.clauses == length clauses) ≡ true = grind (arith, nat_tests) in
      let wrong : Result Cnf DimacsFault = Err (Count (length b.clauses) (length clauses)) in
      let right : Result Cnf DimacsFault = Ok (record { vars = vars; clauses = b.clauses }) in
      ap (λ x. cond (not (is_nil x)) (Err (Open b.last)) (cond (length b.clauses == length clauses) right wrong)) n
      ∙ ap (λ t. cond t right wrong) same ∙ ap (λ cs. Ok (record { vars = vars; clauses = cs })) e

  behind_read : (line : ℕ) (ls : List (List ℕ)) (clauses : List (List ℤ))
      → AllZip SaysInteger (said_words ls) (flat_map with_end clauses) → AreClauses vars clauses
      → read_behind (vars, length clauses) line ls ≡ Ok (record { vars = vars; clauses = clauses })
  behind_read line ls clauses z h =
      let r = lines_read line none_yet ls (flat_map with_end clauses)
      (zip_also SaysInteger (λ l. unsigned_abs l ≤ vars) (said_words ls) (flat_map with_end clauses) z
      (clauses_fit clauses h)) in
      let k = r.grows.keeps (record { open_one = tt; whole = tt }) in
      let p = one_way r.body.clauses clauses r.body.clause k.whole k.open_one h r.grows.told_is in
      ap (λ x. and_then x (finished vars (length clauses))) r.comes ∙ all_there r.body clauses p.0 p.1

-- ---- the header

both_are : (x y : Option ℕ) (h : ℕ × ℕ) → both x y ≡ Some h → (x ≡ Some h.0) × (y ≡ Some h.1)
both_are None y h e = absurd (none_some h e)
both_are (Some v) None h e = absurd (none_some h e)
both_are (Some v) (Some c) h e =
    let same : (v, c) ≡ h = some_pair (v, c) h e in
    (ap (λ (k : ℕ × ℕ). Some k.0) same, ap (λ (k : ℕ × ℕ). Some k.1) same) where
      some_pair : (k l : ℕ × ℕ) → Some k ≡ Some l → k ≡ l
      some_pair k l q = cc

tested : {X : Type 0} (t : Bool) (o : Option X) (x : X) → cond t o None ≡ Some x → (t ≡ true) × (o ≡ Some x)
tested true o x e = (refl, e)
tested false o x e = absurd (none_some x e)

header_said : (ws : List (List ℕ)) (h : ℕ × ℕ) → header_of ws ≡ Some h → SaysHeader ws h.0 h.1
header_said [] h e = absurd (none_some h e)
header_said (p ∷ []) h e = absurd (none_some h e)
header_said (p ∷ f ∷ []) h e = absurd (none_some h e)
header_said (p ∷ f ∷ v ∷ []) h e = absurd (none_some h e)
header_said (p ∷ f ∷ v ∷ c ∷ w ∷ ws) h e = absurd (none_some h e)
header_said (p ∷ f ∷ v ∷ c ∷ []) h e =
    let t = tested (bytes_eq p (codes "p") && bytes_eq f (codes "cnf"))
    (both (number_up_to 100000000 v) (number_up_to 100000000 c)) h e in
    let names = and_parts (bytes_eq p (codes "p")) (bytes_eq f (codes "cnf")) t.0 in
    let p_is : p ≡ codes "p" = (bytes_eq-Decides p (codes "p")).0 names.0 in
    let f_is : f ≡ codes "cnf" = (bytes_eq-Decides f (codes "cnf")).0 names.1 in
    let b = both_are (number_up_to 100000000 v) (number_up_to 100000000 c) h t.1 in
    let vars = up_to_said 100000000 h.0 v b.0 in
    let count = up_to_said 100000000 h.1 c b.1 in
    record {
      vars_word = v;
      count_word = c;
      words_are = ap (λ x. x ∷ f ∷ v ∷ c ∷ []) p_is ∙ ap (λ x. codes "p" ∷ x ∷ v ∷ c ∷ []) f_is;
      vars_are = vars.0;
      count_is = count.0;
      vars_fit = vars.1;
      count_fits = count.1;
    }

header_read : (ws : List (List ℕ)) (vars count : ℕ) → SaysHeader ws vars count → header_of ws ≡ Some (vars, count)
header_read ws vars count s =
    ap header_of s.words_are
    ∙ ap (λ o. both o (number_up_to 100000000 s.count_word))
    (up_to_read 100000000 vars s.vars_word s.vars_are s.vars_fit)
    ∙ ap (both (Some vars)) (up_to_read 100000000 count s.count_word s.count_is s.count_fits)

-- ---- the text

abbrev behind_header : ℕ → List (List ℕ) → ℕ × ℕ → Result Cnf DimacsFault
behind_header line ls h = read_behind h (next_place line) ls

front_more : (l : List ℕ) (ls : List (List ℕ)) (f : Cnf) → is_silent l ≡ true → LinesSay ls f
    → LinesSay (l ∷ ls) f
front_more l ls f h s = record {
  front = l ∷ s.front;
  header = s.header;
  behind = s.behind;
  lines_are = ap (λ x. l ∷ x) s.lines_are;
  front_is_silent = ap (λ t. t && list_all is_silent s.front) h ∙ s.front_is_silent;
  header_says = s.header_says;
  numbers = s.numbers;
  literals = s.literals;
}

header_first : (l : List ℕ) (ls : List (List ℕ)) (f : Cnf) (h : ℕ × ℕ) → header_of (words l) ≡ Some h
    → Behind h.0 h.1 ls f → LinesSay (l ∷ ls) f
header_first l ls f h e b = record {
  front = [];
  header = l;
  behind = ls;
  lines_are = refl;
  front_is_silent = refl;
  header_says = subst (λ n. SaysHeader (words l) f.vars n) b.count_is
      (subst (λ n. SaysHeader (words l) n h.1) b.vars_are (header_said (words l) h e));
  numbers = b.numbers;
  literals = subst (λ n. AreClauses n f.clauses) b.vars_are b.literals;
}

text_said : (line : ℕ) (ls : List (List ℕ)) (f : Cnf) → read_lines line ls ≡ Ok f → LinesSay ls f
text_said line [] f e = absurd (err_ok (Header line) f e)
text_said line (l ∷ ls) f e = by_test (λ k. text_said (next_place line) ls f k) (is_silent l) refl e where
  by_test : (read_lines (next_place line) ls ≡ Ok f → LinesSay ls f) → (t : Bool) → is_silent l ≡ t
      → cond t (read_lines (next_place line) ls)
      (and_then (ok_or (header_of (words l)) (Header line)) (behind_header line ls)) ≡ Ok f → LinesSay (l ∷ ls) f
  by_test more true h k = front_more l ls f h (more k)
  by_test more false h k =
      let w = found (header_of (words l)) (Header line) (behind_header line ls) f k in
      header_first l ls f w.0 w.1 (behind_said w.0.0 w.0.1 (next_place line) ls f w.2)

header_line : (line : ℕ) (l : List ℕ) (ls : List (List ℕ)) (f : Cnf)
    → SaysHeader (words l) f.vars (length f.clauses)
    → AllZip SaysInteger (said_words ls) (flat_map with_end f.clauses) → AreClauses f.vars f.clauses
    → read_lines line (l ∷ ls) ≡ Ok f
header_line line l ls f s z h =
    let loud : is_silent l ≡ false = ap (λ ws. is_nil ws || is_comment ws) s.words_are in
    ap (λ t. cond t (read_lines (next_place line) ls)
    (and_then (ok_or (header_of (words l)) (Header line)) (behind_header line ls))) loud
    ∙ ap (λ o. and_then (ok_or o (Header line)) (behind_header line ls))
    (header_read (words l) f.vars (length f.clauses) s)
    ∙ behind_read f.vars (next_place line) ls f.clauses z h

text_read : (line : ℕ) (front : List (List ℕ)) (l : List ℕ) (ls : List (List ℕ)) (f : Cnf)
    → list_all is_silent front ≡ true → SaysHeader (words l) f.vars (length f.clauses)
    → AllZip SaysInteger (said_words ls) (flat_map with_end f.clauses) → AreClauses f.vars f.clauses
    → read_lines line (front ++ l ∷ ls) ≡ Ok f
text_read line [] l ls f q s z h = header_line line l ls f s z h
text_read line (x ∷ front) l ls f q s z h =
    let p = and_parts (is_silent x) (list_all is_silent front) q in
    ap (λ t. cond t (read_lines (next_place line) (front ++ l ∷ ls))
    (and_then (ok_or (header_of (words x)) (Header line)) (behind_header line (front ++ l ∷ ls)))) p.0
    ∙ text_read (next_place line) front l ls f p.1 s z h

pub formula_law : (bytes : List ℕ) (formula : Cnf) → (formula_of bytes ≡ Ok formula) ↔ SaysFormula bytes formula
formula_law bytes formula = (
  text_said 1 (lines bytes) formula,
  λ s. ap (read_lines 1) s.lines_are
      ∙ text_read 1 s.front s.header s.behind formula s.front_is_silent s.header_says s.numbers s.literals,
)

-- Each text has a reading by the rules of groups.
use Rattle.std.proofs.Common.{◌≡◌, ℕ, zero, suc, ◌≤◌, List, [], ◌∷◌, length, refl, ap, sym, ◌∙◌, subst, true≢false}
use Rattle.std.proofs.Common.{arith}
use Rattle.std.proofs.lemmas.Option.{none-some}
use Rattle.std.specs.Prelude.{Bool, true, false, cond, not, ◌&&◌, ◌==◌, Option, Some, None}
use Rattle.fv_text.specs.declared.kind.Kind.{Kind}
use Rattle.fv_text.specs.declared.kind.Kind.TheVariants as k
use Rattle.fv_text.specs.declared.pos.Pos.{Pos}
use Rattle.fv_text.specs.declared.token.Token.{Token}
use Rattle.vl_prep.specs.declared.directive.Directive.{Directive}
use Rattle.vl_prep.specs.declared.directive.Directive.TheVariants.{Define, Undef, IfDef, IfNotDef, ElseIf, Else}
use Rattle.vl_prep.specs.declared.directive.Directive.TheVariants.{EndIf, Include, TimeScale, DefaultNetType}
use Rattle.vl_prep.specs.declared.opens.Open.{Open}
use Rattle.vl_prep.specs.declared.refusal.Cause.TheVariants as cause
use Rattle.vl_prep.specs.Directive.{directive_of, directive_at}
use Rattle.vl_prep.specs.Lines.{on_line}
use Rattle.vl_prep.specs.Opens.{are_chosen, is_open, can_turn, opened, turned}
use Rattle.vl_prep.specs.Prep.{Done, place, moved, put, refused, redefined, is_defined}
use Rattle.vl_prep.specs.Groups.{begins, chooses, is_conditional, drops_line, is_plain, needs_name, is_alone, is_name}
use Rattle.vl_prep.specs.Groups.{has_name, IsNamed, behind_line, next_line, behind_text, defined, Reads, Ends}
use Rattle.vl_prep.specs.Groups.{Expands}
use Rattle.vl_prep.specs.Groups.{reads_none, reads_passed, reads_token, reads_joined, reads_use, reads_unknown}
use Rattle.vl_prep.specs.Groups.{reads_define, reads_undef, reads_line, reads_include, reads_nameless, reads_alone}
use Rattle.vl_prep.specs.Groups.{reads_conditional}
use Rattle.vl_prep.specs.Groups.{ends_here, ends_open, ends_else, ends_else_if}

shorter_cond : (b : Bool) (xs ys : List Token) (n : ℕ) → length xs ≤ n → length ys ≤ n → length (cond b xs ys) ≤ n
shorter_cond true xs ys n h i = h
shorter_cond false xs ys n h i = i

one_more : (t : Token) (xs ts : List Token) → length xs ≤ length ts → length xs ≤ length (t ∷ ts)
one_more t xs ts l = omega arith

itself : (ts : List Token) → length ts ≤ length ts
itself ts = omega arith

behind_line_shorter : (pos : Pos) (ts : List Token) → length (behind_line pos ts) ≤ length ts
behind_line_shorter pos [] = itself []
behind_line_shorter pos (t ∷ ts) = shorter_cond (on_line pos t.pos) (behind_line pos ts) (t ∷ ts) (length (t ∷ ts))
    (one_more t (behind_line pos ts) ts (behind_line_shorter pos ts)) (itself (t ∷ ts))

behind_text_shorter : (file line : ℕ) (ts : List Token) → length (behind_text file line ts) ≤ length ts
behind_text_shorter file line [] = itself []
behind_text_shorter file line (t ∷ ts) =
    shorter_cond (t.pos.file == file && t.pos.line == line) (behind_text file (next_line line t.kind) ts) (t ∷ ts)
    (length (t ∷ ts))
    (one_more t (behind_text file (next_line line t.kind) ts) ts
    (behind_text_shorter file (next_line line t.kind) ts)) (itself (t ∷ ts))

le_trans : (a b c : ℕ) → a ≤ b → b ≤ c → a ≤ c
le_trans a b c h i = omega arith

le_suc : (a n : ℕ) → suc a ≤ suc n → a ≤ n
le_suc a n h = omega arith

not_less : (a : ℕ) → suc a ≤ zero → ⊥
not_less a h = omega arith

both : (a b : Bool) → (a && b) ≡ true → (a ≡ true) × (b ≡ true)
both true b e = (refl, e)
both false b e = absurd (true≢false (sym e))

-- what stands behind the directive where its name does
record Next (pos : Pos) (ts : List Token) : Type 0 where
  n : Token
  more : List Token
  name : List ℕ
  is : ts ≡ n ∷ more
  word : n.kind ≡ k.Name name
  line : on_line pos n.pos ≡ true

named_next : (pos : Pos) (n : Token) (ts : List Token) (kind : Kind) → n.kind ≡ kind → is_name kind ≡ true
    → on_line pos n.pos ≡ true → Next pos (n ∷ ts)
named_next pos n ts (k.Name name) e h l = record { n = n; more = ts; name = name; is = refl; word = e; line = l }
named_next pos n ts (k.Keyword x) e h l = absurd (true≢false (sym h))
named_next pos n ts (k.Symbol x) e h l = absurd (true≢false (sym h))
named_next pos n ts (k.Number x) e h l = absurd (true≢false (sym h))
named_next pos n ts (k.System x) e h l = absurd (true≢false (sym h))
named_next pos n ts (k.Tick x) e h l = absurd (true≢false (sym h))
named_next pos n ts k.Quoted e h l = absurd (true≢false (sym h))
named_next pos n ts k.Continue e h l = absurd (true≢false (sym h))

next_of : (pos : Pos) (ts : List Token) → has_name pos ts ≡ true → Next pos ts
next_of pos [] e = absurd (true≢false (sym e))
next_of pos (n ∷ ts) e = let p = both (is_name n.kind) (on_line pos n.pos) e in named_next pos n ts n.kind refl p.0 p.1

-- where a group stops: at the end, or where a rule of its conditional goes on
abbrev StopsAt : List Open → Pos → List Token → Option Directive → Type 0
StopsAt os pos ts (Some EndIf) = is_open os ≡ true
StopsAt os pos ts (Some Else) = can_turn os ≡ true
StopsAt os pos ts (Some ElseIf) = (can_turn os ≡ true) × (has_name pos ts ≡ true)
StopsAt os pos ts d = ⊥

abbrev Stops : List Open → List Token → Type 0
Stops os [] = Unit {0}
Stops os (t ∷ ts) = StopsAt os t.pos ts (directive_at t.kind)

no_whole : (ts : List Token) → Stops [] ts → ts ≡ []
no_whole [] h = refl
no_whole (t ∷ ts) h = of (directive_at t.kind) h
  where
    of : (d : Option Directive) → StopsAt [] t.pos ts d → t ∷ ts ≡ []
    of None h = absurd h
    of (Some EndIf) h = absurd (true≢false (sym h))
    of (Some Else) h = absurd (true≢false (sym h))
    of (Some ElseIf) h = absurd (true≢false (sym h.0))
    of (Some IfDef) h = absurd h
    of (Some IfNotDef) h = absurd h
    of (Some Define) h = absurd h
    of (Some Undef) h = absurd h
    of (Some Include) h = absurd h
    of (Some TimeScale) h = absurd h
    of (Some DefaultNetType) h = absurd h

module _ (at : Option Pos) (Use : Pos → List Token → Done → Done → Type 0)
    (uses : (p : Pos) (text : List Token) (old : Done) → (new : Done) × Use p text old new) where
  record Gone (os : List Open) (ts : List Token) (old : Done) : Type 0 where
    rest : List Token
    new : Done
    reads : Reads at Use os ts old rest new
    stops : Stops os rest
    shorter : length rest ≤ length ts

  record Ended (os : List Open) (ts : List Token) (old : Done) : Type 0 where
    rest : List Token
    new : Done
    ends : Ends at Use os ts old rest new
    shorter : length rest ≤ length ts

  -- one construct, and then the others
  onward : (os : List Open) (ts ts' : List Token) (old mid : Done) → length ts' ≤ length ts
      → ((rest : List Token) (new : Done) → Reads at Use os ts' mid rest new → Reads at Use os ts old rest new)
      → Gone os ts' mid → Gone os ts old
  onward os ts ts' old mid l rule g =
      record {
        rest = g.rest;
        new = g.new;
        reads = rule g.rest g.new g.reads;
        stops = g.stops;
        shorter = le_trans (length g.rest) (length ts') (length ts) g.shorter l;
      }

  here : (os : List Open) (t : Token) (ts : List Token) (old : Done) (d : Option Directive) → directive_at t.kind ≡ d
      → StopsAt os t.pos ts d → Gone os (t ∷ ts) old
  here os t ts old d e h =
      record {
        rest = t ∷ ts;
        new = old;
        reads = reads_none os (t ∷ ts) old;
        stops = subst (StopsAt os t.pos ts) (sym e) h;
        shorter = itself (t ∷ ts);
      }

  passed : (os : List Open) (t : Token) (ts : List Token) (old : Done) (d : Option Directive)
      → directive_at t.kind ≡ d → is_conditional d ≡ false → are_chosen os ≡ false → Gone os ts old
      → Gone os (t ∷ ts) old
  passed os t ts old d e n c g = onward os (t ∷ ts) ts old old (one_more t ts ts (itself ts))
      (λ rest new r. reads_passed os t ts rest old new c (ap is_conditional e ∙ n) r) g

  -- what is to be shown for shorter texts
  abbrev All : ℕ → Type 0
  All n = (ts : List Token) → length ts ≤ n → (os : List Open) (old : Done) → Gone os ts old

  abbrev AllEnds : ℕ → Type 0
  AllEnds n = (ts : List Token) → length ts ≤ n → (os : List Open) → is_open os ≡ true → Stops os ts → (old : Done)
      → Ended os ts old

  module _ (n : ℕ) (go : All n) where
    plain_by : (os : List Open) (t : Token) (ts : List Token) (old : Done) → length ts ≤ n → is_plain t.kind ≡ true
        → directive_at t.kind ≡ None → (b : Bool) → are_chosen os ≡ b → Gone os (t ∷ ts) old
    plain_by os t ts old l p d true c =
        onward os (t ∷ ts) ts old (put old (moved t (place at t.pos))) (one_more t ts ts (itself ts))
        (λ rest new r. reads_token os t ts rest old new c p r) (go ts l os (put old (moved t (place at t.pos))))
    plain_by os t ts old l p d false c = passed os t ts old None d refl c (go ts l os old)

    joined_by : (os : List Open) (t : Token) (ts : List Token) (old : Done) → length ts ≤ n → t.kind ≡ k.Continue
        → (b : Bool) → are_chosen os ≡ b → Gone os (t ∷ ts) old
    joined_by os t ts old l e true c = onward os (t ∷ ts) ts old old (one_more t ts ts (itself ts))
        (λ rest new r. reads_joined os t ts rest old new c e r) (go ts l os old)
    joined_by os t ts old l e false c = passed os t ts old None (ap directive_at e) refl c (go ts l os old)

    used_by : (os : List Open) (t : Token) (ts : List Token) (old : Done) (name : List ℕ) → length ts ≤ n
        → t.kind ≡ k.Tick name → directive_of name ≡ None → are_chosen os ≡ true → (text : Option (List Token))
        → old.macros name ≡ text → Gone os (t ∷ ts) old
    used_by os t ts old name l e d c None m =
        onward os (t ∷ ts) ts old (refused (place at t.pos) (cause.UnknownMacro name) old)
        (one_more t ts ts (itself ts)) (λ rest new r. reads_unknown os t name ts rest old new c e d m r)
        (go ts l os (refused (place at t.pos) (cause.UnknownMacro name) old))
    used_by os t ts old name l e d c (Some text) m =
        let u = uses (place at t.pos) text old in
        onward os (t ∷ ts) ts old u.0 (one_more t ts ts (itself ts))
        (λ rest new r. reads_use os t name text ts rest old u.0 new c e d m u.1 r) (go ts l os u.0)

    use_by : (os : List Open) (t : Token) (ts : List Token) (old : Done) (name : List ℕ) → length ts ≤ n
        → t.kind ≡ k.Tick name → directive_of name ≡ None → (b : Bool) → are_chosen os ≡ b → Gone os (t ∷ ts) old
    use_by os t ts old name l e d true c = used_by os t ts old name l e d c (old.macros name) refl
    use_by os t ts old name l e d false c = passed os t ts old None (ap directive_at e ∙ d) refl c (go ts l os old)

    nameless_by : (os : List Open) (t : Token) (ts : List Token) (old : Done) (d : Directive) → length ts ≤ n
        → directive_at t.kind ≡ Some d → needs_name os d ≡ true → has_name t.pos ts ≡ false → Gone os (t ∷ ts) old
    nameless_by os t ts old d l e h n =
        onward os (t ∷ ts) ts old (refused (place at t.pos) cause.NoName old) (one_more t ts ts (itself ts))
        (λ rest new r. reads_nameless os t d ts rest old new e h n r)
        (go ts l os (refused (place at t.pos) cause.NoName old))

    alone_by : (os : List Open) (t : Token) (ts : List Token) (old : Done) (d : Directive) → length ts ≤ n
        → directive_at t.kind ≡ Some d → is_alone os d ≡ true → Gone os (t ∷ ts) old
    alone_by os t ts old d l e h =
        onward os (t ∷ ts) ts old (refused (place at t.pos) cause.UnbalancedIf old) (one_more t ts ts (itself ts))
        (λ rest new r. reads_alone os t d ts rest old new e h r)
        (go ts l os (refused (place at t.pos) cause.UnbalancedIf old))

    behind_name : (t : Token) (ts : List Token) → length (t ∷ ts) ≤ n → length ts ≤ n
    behind_name t ts l = omega arith

    two_less : (t m : Token) (xs ts : List Token) → length xs ≤ length ts → length xs ≤ length (t ∷ m ∷ ts)
    two_less t m xs ts l = omega arith

    -- behind a directive with its name
    define_at : (os : List Open) (t m : Token) (ts : List Token) (name : List ℕ) (old : Done) → length ts ≤ n
        → are_chosen os ≡ true → IsNamed Define name t m → Gone os (t ∷ m ∷ ts) old
    define_at os t m ts name old l c i =
        let s = behind_text_shorter m.pos.file m.pos.line ts in
        onward os (t ∷ m ∷ ts) (behind_text m.pos.file m.pos.line ts) old (defined at name m.pos ts old)
        (two_less t m (behind_text m.pos.file m.pos.line ts) ts s)
        (λ rest new r. reads_define os t m name ts rest old new c i r)
        (go (behind_text m.pos.file m.pos.line ts)
        (le_trans (length (behind_text m.pos.file m.pos.line ts)) (length ts) n s l) os
        (defined at name m.pos ts old))

    undef_at : (os : List Open) (t m : Token) (ts : List Token) (name : List ℕ) (old : Done) → length ts ≤ n
        → are_chosen os ≡ true → IsNamed Undef name t m → Gone os (t ∷ m ∷ ts) old
    undef_at os t m ts name old l c i =
        onward os (t ∷ m ∷ ts) ts old (redefined name None old) (two_less t m ts ts (itself ts))
        (λ rest new r. reads_undef os t m name ts rest old new c i r) (go ts l os (redefined name None old))

    by_next : (os : List Open) (t : Token) (ts : List Token) (old : Done) (d : Directive) → length ts ≤ n
        → directive_at t.kind ≡ Some d → needs_name os d ≡ true →
        ((m : Token) (more : List Token) (name : List ℕ) → length more ≤ n → IsNamed d name t m
        → Gone os (t ∷ m ∷ more) old) → (b : Bool) → has_name t.pos ts ≡ b → Gone os (t ∷ ts) old
    by_next os t ts old d l e h with_name true x =
        let y = next_of t.pos ts x in
        subst (λ z. Gone os (t ∷ z) old) (sym y.is)
        (with_name y.n y.more y.name (behind_name y.n y.more (subst (λ z. length z ≤ n) y.is l))
        (record { directive = e; word = y.word; line = y.line }))
    by_next os t ts old d l e h with_name false x = nameless_by os t ts old d l e h x

    line_at : (os : List Open) (t : Token) (ts : List Token) (old : Done) (d : Directive) → length ts ≤ n
        → directive_at t.kind ≡ Some d → drops_line d ≡ true → are_chosen os ≡ true → Gone os (t ∷ ts) old
    line_at os t ts old d l e h c =
        let s = behind_line_shorter t.pos ts in
        onward os (t ∷ ts) (behind_line t.pos ts) old old (one_more t (behind_line t.pos ts) ts s)
        (λ rest new r. reads_line os t d ts rest old new c e h r)
        (go (behind_line t.pos ts) (le_trans (length (behind_line t.pos ts)) (length ts) n s l) os old)

    chosen_by : (os : List Open) (t : Token) (ts : List Token) (old : Done) (d : Directive) → length ts ≤ n
        → directive_at t.kind ≡ Some d → is_conditional (Some d) ≡ false → (b : Bool) → are_chosen os ≡ b
        → Gone os (t ∷ ts) old
    chosen_by os t ts old d l e i false c = passed os t ts old (Some d) e i c (go ts l os old)
    chosen_by os t ts old Define l e i true c = by_next os t ts old Define l e c
        (λ m more name k j. define_at os t m more name old k c j) (has_name t.pos ts) refl
    chosen_by os t ts old Undef l e i true c = by_next os t ts old Undef l e c
        (λ m more name k j. undef_at os t m more name old k c j) (has_name t.pos ts) refl
    chosen_by os t ts old Include l e i true c =
        onward os (t ∷ ts) ts old (refused (place at t.pos) cause.Include old) (one_more t ts ts (itself ts))
        (λ rest new r. reads_include os t ts rest old new c e r)
        (go ts l os (refused (place at t.pos) cause.Include old))
    chosen_by os t ts old TimeScale l e i true c = line_at os t ts old TimeScale l e refl c
    chosen_by os t ts old DefaultNetType l e i true c = line_at os t ts old DefaultNetType l e refl c
    chosen_by os t ts old IfDef l e i true c = absurd (true≢false i)
    chosen_by os t ts old IfNotDef l e i true c = absurd (true≢false i)
    chosen_by os t ts old ElseIf l e i true c = absurd (true≢false i)
    chosen_by os t ts old Else l e i true c = absurd (true≢false i)
    chosen_by os t ts old EndIf l e i true c = absurd (true≢false i)

    module _ (go_ends : AllEnds n) where
      conditional_at : (os : List Open) (t m : Token) (ts : List Token) (d : Directive) (name : List ℕ) (old : Done)
          → length ts ≤ n → IsNamed d name t m → begins d ≡ true → Gone os (t ∷ m ∷ ts) old
      conditional_at os t m ts d name old l i b =
          let g = go ts l (opened (place at t.pos) (chooses d (is_defined old name)) os) old in
          let e = go_ends g.rest (le_trans (length g.rest) (length ts) n g.shorter l)
          (opened (place at t.pos) (chooses d (is_defined old name)) os) refl g.stops g.new in
          let s = le_trans (length e.rest) (length g.rest) (length ts) e.shorter g.shorter in
          onward os (t ∷ m ∷ ts) e.rest old e.new (two_less t m e.rest ts s)
          (λ rest new r. reads_conditional os t m d name ts g.rest e.rest rest old g.new e.new new i b g.reads e.ends
          r) (go e.rest (le_trans (length e.rest) (length ts) n s l) os e.new)

      turn_by : (os : List Open) (t : Token) (ts : List Token) (old : Done) → length ts ≤ n
          → directive_at t.kind ≡ Some Else → (b : Bool) → can_turn os ≡ b → Gone os (t ∷ ts) old
      turn_by os t ts old l e true c = here os t ts old (Some Else) e c
      turn_by os t ts old l e false c = alone_by os t ts old Else l e (ap not c)

      else_if_named : (os : List Open) (t : Token) (ts : List Token) (old : Done) → length ts ≤ n
          → directive_at t.kind ≡ Some ElseIf → can_turn os ≡ true → (b : Bool) → has_name t.pos ts ≡ b
          → Gone os (t ∷ ts) old
      else_if_named os t ts old l e c true h = here os t ts old (Some ElseIf) e (c, h)
      else_if_named os t ts old l e c false h = nameless_by os t ts old ElseIf l e c h

      else_if_by : (os : List Open) (t : Token) (ts : List Token) (old : Done) → length ts ≤ n
          → directive_at t.kind ≡ Some ElseIf → (b : Bool) → can_turn os ≡ b → Gone os (t ∷ ts) old
      else_if_by os t ts old l e true c = else_if_named os t ts old l e c (has_name t.pos ts) refl
      else_if_by os t ts old l e false c = alone_by os t ts old ElseIf l e (ap not c)

      end_by : (os : List Open) (t : Token) (ts : List Token) (old : Done) → length ts ≤ n
          → directive_at t.kind ≡ Some EndIf → (b : Bool) → is_open os ≡ b → Gone os (t ∷ ts) old
      end_by os t ts old l e true c = here os t ts old (Some EndIf) e c
      end_by os t ts old l e false c = alone_by os t ts old EndIf l e (ap not c)

      directive_by : (os : List Open) (t : Token) (ts : List Token) (old : Done) (d : Directive) → length ts ≤ n
          → directive_at t.kind ≡ Some d → Gone os (t ∷ ts) old
      directive_by os t ts old IfDef l e = by_next os t ts old IfDef l e refl
          (λ m more name k j. conditional_at os t m more IfDef name old k j refl) (has_name t.pos ts) refl
      directive_by os t ts old IfNotDef l e = by_next os t ts old IfNotDef l e refl
          (λ m more name k j. conditional_at os t m more IfNotDef name old k j refl) (has_name t.pos ts) refl
      directive_by os t ts old ElseIf l e = else_if_by os t ts old l e (can_turn os) refl
      directive_by os t ts old Else l e = turn_by os t ts old l e (can_turn os) refl
      directive_by os t ts old EndIf l e = end_by os t ts old l e (is_open os) refl
      directive_by os t ts old Define l e = chosen_by os t ts old Define l e refl (are_chosen os) refl
      directive_by os t ts old Undef l e = chosen_by os t ts old Undef l e refl (are_chosen os) refl
      directive_by os t ts old Include l e = chosen_by os t ts old Include l e refl (are_chosen os) refl
      directive_by os t ts old TimeScale l e = chosen_by os t ts old TimeScale l e refl (are_chosen os) refl
      directive_by os t ts old DefaultNetType l e = chosen_by os t ts old DefaultNetType l e refl (are_chosen os) refl

      tick_by : (os : List Open) (t : Token) (ts : List Token) (old : Done) (word : List ℕ) → length ts ≤ n
          → t.kind ≡ k.Tick word → (d : Option Directive) → directive_of word ≡ d → Gone os (t ∷ ts) old
      tick_by os t ts old word l e None h = use_by os t ts old word l e h (are_chosen os) refl
      tick_by os t ts old word l e (Some d) h = directive_by os t ts old d l (ap directive_at e ∙ h)

      kind_by : (os : List Open) (t : Token) (ts : List Token) (old : Done) → length ts ≤ n → (kind : Kind)
          → t.kind ≡ kind → Gone os (t ∷ ts) old
      kind_by os t ts old l (k.Tick word) e = tick_by os t ts old word l e (directive_of word) refl
      kind_by os t ts old l k.Continue e = joined_by os t ts old l e (are_chosen os) refl
      kind_by os t ts old l (k.Name x) e =
          plain_by os t ts old l (ap is_plain e) (ap directive_at e) (are_chosen os) refl
      kind_by os t ts old l (k.Keyword x) e =
          plain_by os t ts old l (ap is_plain e) (ap directive_at e) (are_chosen os) refl
      kind_by os t ts old l (k.Symbol x) e =
          plain_by os t ts old l (ap is_plain e) (ap directive_at e) (are_chosen os) refl
      kind_by os t ts old l (k.Number x) e =
          plain_by os t ts old l (ap is_plain e) (ap directive_at e) (are_chosen os) refl
      kind_by os t ts old l (k.System x) e =
          plain_by os t ts old l (ap is_plain e) (ap directive_at e) (are_chosen os) refl
      kind_by os t ts old l k.Quoted e = plain_by os t ts old l (ap is_plain e) (ap directive_at e) (are_chosen os) refl

      -- the rest of a conditional
      else_at : (o : Open) (os : List Open) (t : Token) (ts : List Token) (old : Done) → length ts ≤ n
          → directive_at t.kind ≡ Some Else → can_turn (o ∷ os) ≡ true → Ended (o ∷ os) (t ∷ ts) old
      else_at o os t ts old l d c =
          let g = go ts l (turned true true (o ∷ os)) old in
          let e = go_ends g.rest (le_trans (length g.rest) (length ts) n g.shorter l)
          (turned true true (o ∷ os)) refl g.stops g.new in
          record {
            rest = e.rest;
            new = e.new;
            ends = ends_else (o ∷ os) t ts g.rest e.rest old g.new e.new d c g.reads e.ends;
            shorter = one_more t e.rest ts (le_trans (length e.rest) (length g.rest) (length ts) e.shorter g.shorter);
          }

      else_if_at : (o : Open) (os : List Open) (t m : Token) (ts : List Token) (name : List ℕ) (old : Done)
          → length ts ≤ n → IsNamed ElseIf name t m → can_turn (o ∷ os) ≡ true → Ended (o ∷ os) (t ∷ m ∷ ts) old
      else_if_at o os t m ts name old l i c =
          let g = go ts l (turned false (is_defined old name) (o ∷ os)) old in
          let e = go_ends g.rest (le_trans (length g.rest) (length ts) n g.shorter l)
          (turned false (is_defined old name) (o ∷ os)) refl g.stops g.new in
          record {
            rest = e.rest;
            new = e.new;
            ends = ends_else_if (o ∷ os) t m name ts g.rest e.rest old g.new e.new i c g.reads e.ends;
            shorter = two_less t m e.rest ts (le_trans (length e.rest) (length g.rest) (length ts) e.shorter g.shorter);
          }

      ends_by : (o : Open) (os : List Open) (t : Token) (ts : List Token) (old : Done) → length ts ≤ n
          → (d : Option Directive) → directive_at t.kind ≡ d → StopsAt (o ∷ os) t.pos ts d → Ended (o ∷ os) (t ∷ ts) old
      ends_by o os t ts old l None e h = absurd h
      ends_by o os t ts old l (Some EndIf) e h =
          record { rest = ts; new = old; ends = ends_here o os t ts old e; shorter = one_more t ts ts (itself ts) }
      ends_by o os t ts old l (Some Else) e h = else_at o os t ts old l e h
      ends_by o os t ts old l (Some ElseIf) e h =
          let y = next_of t.pos ts h.1 in
          subst (λ z. Ended (o ∷ os) (t ∷ z) old) (sym y.is)
          (else_if_at o os t y.n y.more y.name old (behind_name y.n y.more (subst (λ z. length z ≤ n) y.is l))
          (record { directive = e; word = y.word; line = y.line }) h.0)
      ends_by o os t ts old l (Some IfDef) e h = absurd h
      ends_by o os t ts old l (Some IfNotDef) e h = absurd h
      ends_by o os t ts old l (Some Define) e h = absurd h
      ends_by o os t ts old l (Some Undef) e h = absurd h
      ends_by o os t ts old l (Some Include) e h = absurd h
      ends_by o os t ts old l (Some TimeScale) e h = absurd h
      ends_by o os t ts old l (Some DefaultNetType) e h = absurd h

  open_ends : (os : List Open) (old : Done) → is_open os ≡ true → Ended os [] old
  open_ends [] old h = absurd (true≢false (sym h))
  open_ends (o ∷ os) old h = record {
    rest = [];
    new = refused o.place cause.UnbalancedIf old;
    ends = ends_open o os old;
    shorter = itself [];
  }

  mutual
    all : (n : ℕ) (ts : List Token) → length ts ≤ n → (os : List Open) (old : Done) → Gone os ts old
    all n [] l os old = record { rest = []; new = old; reads = reads_none os [] old; stops = tt; shorter = itself [] }
    all zero (t ∷ ts) l os old = absurd (not_less (length ts) l)
    all (suc n) (t ∷ ts) l os old = kind_by n (all n) (all_ends n) os t ts old (le_suc (length ts) n l) t.kind refl

    all_ends : (n : ℕ) (ts : List Token) → length ts ≤ n → (os : List Open) → is_open os ≡ true → Stops os ts
        → (old : Done) → Ended os ts old
    all_ends n [] l os h s old = open_ends os old h
    all_ends n (t ∷ ts) l [] h s old = absurd (true≢false (sym h))
    all_ends zero (t ∷ ts) l (o ∷ os) h s old = absurd (not_less (length ts) l)
    all_ends (suc n) (t ∷ ts) l (o ∷ os) h s old =
        ends_by n (all n) (all_ends n) o os t ts old (le_suc (length ts) n l) (directive_at t.kind) refl s

  -- the whole text is read
  pub whole : (ts : List Token) (old : Done) → (new : Done) × Reads at Use [] ts old [] new
  whole ts old =
      let g = all (length ts) ts (itself ts) [] old in
      (g.new, subst (λ z. Reads at Use [] ts old z g.new) (no_whole g.rest g.stops) g.reads)

pub expands_all : (n : ℕ) (p : Pos) (text : List Token) (old : Done) → (new : Done) × Expands n p text old new
expands_all zero p text old = (refused p cause.MacroDepth old, refl)
expands_all (suc n) p text old = whole (Some p) (Expands n) (expands_all n) text old

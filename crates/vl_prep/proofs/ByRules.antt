-- What the rules of groups lead to, the reading of the text comes to.
use Rattle.std.proofs.Common.{◌≡◌, ℕ, zero, suc, List, [], ◌∷◌, refl, ap, sym, ◌∙◌}
use Rattle.std.specs.Prelude.{Bool, true, false, Option, Some, None}
use Rattle.fv_text.specs.declared.pos.Pos.{Pos}
use Rattle.fv_text.specs.declared.token.Token.{Token}
use Rattle.vl_prep.specs.declared.directive.Directive.TheVariants.{Define, Undef, ElseIf, Else, EndIf, Include}
use Rattle.vl_prep.specs.declared.opens.Open.{Open}
use Rattle.vl_prep.specs.declared.reading.Reading.TheVariants.{Named}
use Rattle.vl_prep.specs.declared.refusal.Cause.TheVariants as cause
use Rattle.vl_prep.specs.Directive.{directive_at}
use Rattle.vl_prep.specs.Macros.{Held}
use Rattle.vl_prep.specs.Opens.{closed, opened, turned}
use Rattle.vl_prep.specs.Prep.{Done, at_first, place, moved, put, refused, redefined, is_defined, use_of, at_plain}
use Rattle.vl_prep.specs.Prep.{expand, read_from, started}
use Rattle.vl_prep.specs.Groups.{chooses, behind_line, behind_text, defined, Reads, Ends, Expands, IsRead}
use Rattle.vl_prep.specs.Groups.{reads_none, reads_passed, reads_token, reads_joined, reads_use, reads_unknown}
use Rattle.vl_prep.specs.Groups.{reads_define, reads_undef, reads_line, reads_include, reads_nameless, reads_alone}
use Rattle.vl_prep.specs.Groups.{reads_conditional}
use Rattle.vl_prep.specs.Groups.{ends_here, ends_open, ends_else, ends_else_if}
use Rattle.vl_prep.proofs.Single.{plain, stand, read, when, step, directive_step, put_step, use_step, chosen_step}
use Rattle.vl_prep.proofs.Single.{other_step, alone_step, named_step, nameless_step, with_name_step, begin_step}
use Rattle.vl_prep.proofs.Single.{drop_step, body_step}

same_closed : (last decided : Bool) (os : List Open) → closed (turned last decided os) ≡ closed os
same_closed last decided [] = refl
same_closed last decided (o ∷ os) = refl

module _ (at : Option Pos) (f : Pos → List Token → Done → Done) (Use : Pos → List Token → Done → Done → Type 0)
    (uses : (p : Pos) (text : List Token) (old new : Done) → Use p text old new → f p text old ≡ new) where
  mutual
    pub reads : (os : List Open) (ts : List Token) (old : Done) (rest : List Token) (new : Done)
        → Reads at Use os ts old rest new → read at f (plain old os) ts ≡ read at f (plain new os) rest
    reads _ _ _ _ _ (reads_none os ts done) = refl
    reads _ _ _ _ _ (reads_passed os t ts rest old new c o r) = step at f (plain old os) (plain old os) t ts
        (other_step at f old os t t.kind c o) ∙ reads os ts old rest new r
    reads _ _ _ _ _ (reads_token os t ts rest old new c p r) =
        put_step at f old os t ts c p ∙ reads os ts (put old (moved t (place at t.pos))) rest new r
    reads _ _ _ _ _ (reads_joined os t ts rest old new c e r) = step at f (plain old os) (plain old os) t ts
        (ap (at_plain at f (plain old os) t) e) ∙ reads os ts old rest new r
    reads _ _ _ _ _ (reads_use os t name text ts rest old mid new c e d m u r) =
        use_step at f old mid os t name ts c (ap directive_at e ∙ d) e
        (ap (use_of at f old name t.pos) m ∙ uses (place at t.pos) text old mid u) ∙ reads os ts mid rest new r
    reads _ _ _ _ _ (reads_unknown os t name ts rest old new c e d m r) =
        use_step at f old (refused (place at t.pos) (cause.UnknownMacro name) old) os t name ts c
        (ap directive_at e ∙ d) e (ap (use_of at f old name t.pos) m)
        ∙ reads os ts (refused (place at t.pos) (cause.UnknownMacro name) old) rest new r
    reads _ _ _ _ _ (reads_define os t n name ts rest old new c i r) =
        with_name_step at f old os t n Define name ts i c ∙ body_step at f old os name n.pos n.pos.line [] ts
        ∙ reads os (behind_text n.pos.file n.pos.line ts) (defined at name n.pos ts old) rest new r
    reads _ _ _ _ _ (reads_undef os t n name ts rest old new c i r) =
        with_name_step at f old os t n Undef name ts i c ∙ reads os ts (redefined name None old) rest new r
    reads _ _ _ _ _ (reads_line os t d ts rest old new c e h r) =
        drop_step at f old os t ts d c e h ∙ reads os (behind_line t.pos ts) old rest new r
    reads _ _ _ _ _ (reads_include os t ts rest old new c e r) = chosen_step at f old os t ts Include c e refl
        ∙ reads os ts (refused (place at t.pos) cause.Include old) rest new r
    reads _ _ _ _ _ (reads_nameless os t d ts rest old new e h n r) =
        directive_step at f old os t ts d (stand old os (Named d t.pos)) e (named_step at f old os t.pos d h)
        ∙ nameless_step at f old os d t.pos ts n
        ∙ reads os ts (refused (place at t.pos) cause.NoName old) rest new r
    reads _ _ _ _ _ (reads_alone os t d ts rest old new e h r) =
        directive_step at f old os t ts d (plain (refused (place at t.pos) cause.UnbalancedIf old) os) e
        (alone_step at f old os t.pos d h) ∙ reads os ts
        (refused (place at t.pos) cause.UnbalancedIf old) rest new r
    reads _ _ _ _ _ (reads_conditional os t n d name ts group behind rest old mid further new i b g e r) =
        begin_step at f old os t n d name ts i b
        ∙ reads (opened (place at t.pos) (chooses d (is_defined old name)) os) ts old group mid g
        ∙ ends (opened (place at t.pos) (chooses d (is_defined old name)) os) group mid behind further e
        ∙ reads os behind further rest new r

    ends : (os : List Open) (ts : List Token) (old : Done) (rest : List Token) (new : Done)
        → Ends at Use os ts old rest new → read at f (plain old os) ts ≡ read at f (plain new (closed os)) rest
    ends _ _ _ _ _ (ends_here o os t ts done e) = directive_step at f done (o ∷ os) t ts EndIf (plain done os) e refl
    ends _ _ _ _ _ (ends_open o os done) = refl
    ends _ _ _ _ _ (ends_else os t ts group rest old mid new d c r e) =
        directive_step at f old os t ts Else (plain old (turned true true os)) d (when _ _ _ c)
        ∙ reads (turned true true os) ts old group mid r ∙ ends (turned true true os) group mid rest new e
        ∙ ap (λ z. read at f (plain new z) rest) (same_closed true true os)
    ends _ _ _ _ _ (ends_else_if os t n name ts group rest old mid new i c r e) =
        with_name_step at f old os t n ElseIf name ts i c
        ∙ reads (turned false (is_defined old name) os) ts old group mid r
        ∙ ends (turned false (is_defined old name) os) group mid rest new e
        ∙ ap (λ z. read at f (plain new z) rest) (same_closed false (is_defined old name) os)

pub expands : (n : ℕ) (p : Pos) (text : List Token) (old new : Done) → Expands n p text old new
    → expand n p text old ≡ new
unfolding expand
expands zero p text old new h = sym h
expands (suc n) p text old new h =
    reads (Some p) (expand n) (Expands n) (λ q ts d r u. expands n q ts d r u) [] text old [] new h

-- what the groups of the whole say, it comes to
pub only_groups : (macros : Held) (tokens : List Token) (done : Done) → IsRead macros tokens done
    → read_from None (expand 32) (started (at_first macros)) tokens ≡ done
only_groups macros tokens done h =
    reads None (expand 32) (Expands 32) (λ q ts d r u. expands 32 q ts d r u) [] tokens (at_first macros) [] done h

-- The preprocessor puts out at most 2,000,000 tokens: each rule of nested groups keeps them so few.
use Rattle.std.specs.Prelude.{◌≡◌, refl, ℕ, zero, suc, ◌≤◌, List, [], ◌∷◌, ◌++◌, length, Bool, true, false}
use Rattle.std.specs.Prelude.{◌&&◌, ◌==◌, nat_lt, Option, None, Some, if◌then◌else◌, Ok}
use Rattle.std.proofs.Common.{sym, subst, arith}
use Rattle.std.proofs.lemmas.Bool.Decides.{nat_tests}
use Rattle.std.proofs.lemmas.List.{length-append}
use Rattle.fv_text.specs.declared.pos.Pos.{Pos}
use Rattle.fv_text.specs.declared.token.Token.{Token}
use Rattle.vl_prep.specs.Groups.{
  Ends,
  Expands,
  Reads,
  defined,
  ends_else,
  ends_else_if,
  ends_here,
  ends_open,
  next_line,
  reads_alone,
  reads_conditional,
  reads_define,
  reads_include,
  reads_joined,
  reads_line,
  reads_nameless,
  reads_none,
  reads_passed,
  reads_token,
  reads_undef,
  reads_unknown,
  reads_use,
  without_arguments,
}
use Rattle.vl_prep.specs.Lines.{begins_arguments}
use Rattle.vl_prep.specs.Macros.{Held}
use Rattle.vl_prep.specs.Prep.{Done, Outcome, at_first, moved, place, preprocessed, put, put_out}
use Rattle.vl_prep.proofs.Whole.{groups_of}

-- so few are put out so far
abbrev IsFew : Done → Type 0
IsFew done = length done.output ≤ 2000000

one_more : (output : List Token) (t : Token) → nat_lt (length output) 2000000 ≡ true
    → length (output ++ t ∷ []) ≤ 2000000
one_more output t h =
    let less : suc (length output) ≤ 2000000 = grind (arith, nat_tests) in
    omega (arith, length-append output (t ∷ []), less)

if_few : (b : Bool) (x y : Done) → (b ≡ true → IsFew x) → IsFew y → IsFew (if b then x else y)
if_few true x y h k = h refl
if_few false x y h k = k

put_few : (done : Done) (t : Token) → IsFew done → IsFew (put done t)
put_few done t h =
    if_few (nat_lt (length done.output) 2000000) (put_out done t) _ (λ e. one_more done.output t e) h

module _ (at : Option Pos) where
  arguments_few : (name : List ℕ) (pos : Pos) (line : ℕ) (ts : List Token) (done : Done) → IsFew done
      → IsFew (without_arguments at name pos line ts done)
  arguments_few name pos line [] done h = h
  arguments_few name pos line (t ∷ ts) done h =
      if_few (t.pos.file == pos.file && t.pos.line == line) _ done
      (λ e. arguments_few name pos (next_line line t.kind) ts _
      (if_few (begins_arguments name pos t) _ done (λ e. h) h)) h

  defined_few : (name : List ℕ) (pos : Pos) (ts : List Token) (done : Done) → IsFew done
      → IsFew (defined at name pos ts done)
  defined_few name pos ts done h = arguments_few name pos pos.line ts done h

  module _ (Use : Pos → List Token → Done → Done → Type 0)
      (uses : (p : Pos) (text : List Token) (old new : Done) → Use p text old new → IsFew old → IsFew new)
    where
      mutual
        reads_few : (os : List _) (ts : List Token) (old : Done) (rest : List Token) (new : Done)
            → Reads at Use os ts old rest new → IsFew old → IsFew new
        reads_few _ _ _ _ _ (reads_none os ts done) h = h
        reads_few _ _ _ _ _ (reads_passed os t ts rest old new a b r) h = reads_few os ts old rest new r h
        reads_few _ _ _ _ _ (reads_token os t ts rest old new a b r) h =
            reads_few os ts (put old (moved t (place at t.pos))) rest new r (put_few old (moved t (place at t.pos)) h)
        reads_few _ _ _ _ _ (reads_joined os t ts rest old new a b r) h = reads_few os ts old rest new r h
        reads_few _ _ _ _ _ (reads_use os t name text ts rest old mid new a b c d u r) h =
            reads_few os ts mid rest new r (uses (place at t.pos) text old mid u h)
        reads_few _ _ _ _ _ (reads_unknown os t name ts rest old new a b c d r) h = reads_few os ts _ rest new r h
        reads_few _ _ _ _ _ (reads_define os t n name ts rest old new a b r) h =
            reads_few os _ (defined at name n.pos ts old) rest new r (defined_few name n.pos ts old h)
        reads_few _ _ _ _ _ (reads_undef os t n name ts rest old new a b r) h = reads_few os ts _ rest new r h
        reads_few _ _ _ _ _ (reads_line os t d ts rest old new a b c r) h = reads_few os _ old rest new r h
        reads_few _ _ _ _ _ (reads_include os t ts rest old new a b r) h = reads_few os ts _ rest new r h
        reads_few _ _ _ _ _ (reads_nameless os t d ts rest old new a b c r) h = reads_few os ts _ rest new r h
        reads_few _ _ _ _ _ (reads_alone os t d ts rest old new a b r) h = reads_few os ts _ rest new r h
        reads_few _ _ _ _ _ (reads_conditional os t n d name ts group behind rest old mid further new a b r e s) h =
            reads_few os behind further rest new s
            (ends_few _ group mid behind further e (reads_few _ ts old group mid r h))

        ends_few : (os : List _) (ts : List Token) (old : Done) (rest : List Token) (new : Done)
            → Ends at Use os ts old rest new → IsFew old → IsFew new
        ends_few _ _ _ _ _ (ends_here o os t ts done a) h = h
        ends_few _ _ _ _ _ (ends_open o os done) h = h
        ends_few _ _ _ _ _ (ends_else os t ts group rest old mid new a b r e) h =
            ends_few _ group mid rest new e (reads_few _ ts old group mid r h)
        ends_few _ _ _ _ _ (ends_else_if os t n name ts group rest old mid new a b r e) h =
            ends_few _ group mid rest new e (reads_few _ ts old group mid r h)

-- what a use comes to
expands_few : (n : ℕ) (p : Pos) (text : List Token) (old new : Done) → Expands n p text old new → IsFew old
    → IsFew new
expands_few zero p text old new e h = subst IsFew (sym e) h
expands_few (suc n) p text old new r h =
    reads_few (Some p) (Expands n) (expands_few n) [] text old [] new r h

pub few_tokens : (macros : Held) (tokens : List Token) (r : Outcome) → preprocessed macros tokens ≡ Ok r
    → length r.output ≤ 2000000
few_tokens macros tokens r e =
    reads_few None (Expands 32) (expands_few 32) [] tokens (at_first macros) []
    (record { macros = r.macros; output = r.output; refusal = None }) (groups_of macros tokens r e) (omega arith)

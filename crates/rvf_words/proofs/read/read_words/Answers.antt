use Rattle.std.proofs.Common.{◌≡◌, ap, sym, ◌∙◌, refl, arith, true, false, ◌⊎◌, inl, inr, None, map, string_bytes}
use Rattle.std.proofs.Common.{option_and_then, if◌then◌else◌}
use Rattle.std.proofs.Common.{List, ℕ, [], ◌∷◌}
use Rattle.std.proofs.lemmas.Result.{IfOk-weaker}
use Rattle.std.proofs.lemmas.Bool.Decides.{nat_tests}
use Rattle.clap.specs.Words.{App, Kinds, IsAmong, app_of, is_simple, kind_of, subcommand_of, subcommand_rows_of}
use Rattle.clap.specs.Walk.{is_empty}
use Rattle.clap.specs.Faults.{fault_of, is_simple_and_free}
use Rattle.clap.specs.declared.error.kind.ErrorKind.{ErrorKind}
use Rattle.rvf_words.specs.Line.{asked, line_of}
use Rattle.rvf_words.specs.Table.{program}
use Rattle.rvf_words.proofs.read.read_words.Goals as goal

-- a list that has something isn't empty
some : (k : ErrorKind) (ks : Kinds) → IsAmong k ks → is_empty ks ≡ false
some k [] h = absurd h
some k (x ∷ xs) h = grind (arith, nat_tests)

simple : is_simple program ≡ true
simple = refl

free : is_simple_and_free program ≡ true
free = refl

pub returns-in-Ok : goal.returns-in-Ok
returns-in-Ok c =
    let ws = map string_bytes c.args.words.now in
    let same : app_of c.in_ok-program.field-0 ≡ program = c.in_ok-program.ensures in
    let quiet : fault_of program ws ≡ [] =
    ap (λ a. fault_of a ws) (sym same) ∙ c.in-Ok.ensures.kinds (ap is_simple_and_free same ∙ free) in
    let used = (c.in-Ok.ensures.matches (ap is_simple same ∙ simple)).1 ∙ ap (λ a. subcommand_of a ws) same in
    let all : option_and_then (λ u. asked u.0 u.1) (subcommand_rows_of c.in-Ok.matches) ≡ line_of ws =
    ap (option_and_then (λ u. asked u.0 u.1)) used
    ∙ sym (ap (λ ks. if is_empty ks then option_and_then (λ u. asked u.0 u.1) (subcommand_of program ws) else None)
    quiet) in
    IfOk-weaker c.asked.result _ _ (λ m h. h ∙ all) c.asked.ensures

pub returns-in-Err : goal.returns-in-Err
returns-in-Err c =
    let ws = map string_bytes c.args.words.now in
    let same : app_of c.in_ok-program.field-0 ≡ program = c.in_ok-program.ensures in
    let has = c.in-Err.ensures.kinds (ap is_simple_and_free same ∙ free) in
    let loud : (kind_of c.in-Err.fault ≡ ErrorKind.OutOfMemory → ⊥) → is_empty (fault_of program ws) ≡ false = λ no.
    elim has [
      | inl e ↦ absurd (no e)
      | inr h ↦ ap (λ a. is_empty (fault_of a ws)) (sym same)
          ∙ some (kind_of c.in-Err.fault) (fault_of (app_of c.in_ok-program.field-0) ws) h
    ] in
    IfOk-weaker c.refused.result _ _ (λ m h. h.0
    ∙ sym (ap (λ b. if b then option_and_then (λ u. asked u.0 u.1) (subcommand_of program ws) else None) (loud h.1)))
    c.refused.ensures

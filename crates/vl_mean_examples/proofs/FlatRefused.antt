-- What a small design without hierarchy doesn't keep.
use Rattle.std.specs.Prelude.{◌≡◌, true, false, [], codes}
use Rattle.std.proofs.lemmas.List.Elements.{All-head}
use Rattle.vl_tree.specs.Expr.{Expr}
use Rattle.vl_tree.specs.Lval.{Lval}
use Rattle.vl_size.specs.Table.{declared_as}
use Rattle.vl_mean.specs.declared.driver.DriverKind.TheVariants as k
use Rattle.vl_mean_examples.specs.FlatExamples.{decls, driver, assigns, o, bit_of_q, varying_bit_of_o}
use Rattle.vl_mean.specs.FlatLaw.{IsDriver, IsLawful}
use Rattle.vl_mean.specs.Parts.{plain, plain_target}
use Rattle.vl_mean.specs.Scopes.{is_clock_decl}

differ : false ≡ true → ⊥
differ h = cc

differ_back : true ≡ false → ⊥
differ_back h = cc

read_first : (l : Lval) (e : Expr) → IsLawful decls (assigns l e) [] → IsDriver decls (k.Assign l e)
read_first l e h = All-head (λ x. IsDriver decls x.what) (driver (k.Assign l e)) [] h.driven

pub not_a_variable : IsLawful decls (assigns (plain_target (codes "q")) bit_of_q) [] → ⊥
not_a_variable h = let d = read_first (plain_target (codes "q")) bit_of_q h in differ d.0.0.1

pub not_the_clock : IsLawful decls (assigns o (plain (codes "clock"))) [] → ⊥
not_the_clock h =
    let d = read_first o (plain (codes "clock")) h in
    differ_back (All-head (λ text. is_clock_decl (declared_as decls text) ≡ false) (codes "clock") [] d.1.clockless)

pub not_varying : IsLawful decls (assigns varying_bit_of_o bit_of_q) [] → ⊥
not_varying h = let d = read_first varying_bit_of_o bit_of_q h in differ d.0.0.2

pub not_undeclared : IsLawful decls (assigns o (plain (codes "p"))) [] → ⊥
not_undeclared h = let d = read_first o (plain (codes "p")) h in differ d.1.sized

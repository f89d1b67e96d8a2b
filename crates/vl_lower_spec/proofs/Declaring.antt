-- The declarations of a design without hierarchy, off its parts.
use Rattle.std.specs.Prelude.{◌≡◌, refl, List, [], ◌∷◌, ◌++◌, map}
use Rattle.std.proofs.Common.{ap, ◌∙◌, append_assoc}
use Rattle.vl_size.specs.declared.decl.Decl.{Decl}
use Rattle.vl_mean.specs.declared.driver.Driver.{Driver}
use Rattle.vl_mean.specs.declared.driver.DriverKind.{DriverKind}
use Rattle.vl_mean.specs.declared.driver.DriverKind.TheVariants as k
use Rattle.vl_mean.specs.declared.driver.Start.{Start}
use Rattle.vl_mean.specs.FlatLaw.{flat_scopes}
use Rattle.vl_mean.specs.FlatParts.{driver_part, parts_of, start_part}
use Rattle.vl_mean.specs.Parts.{Part, declares}
use Rattle.vl_mean.specs.Scopes.{Scope}
use Rattle.vl_mean_flat.specs.Flattened.{decls_of}

none_driven : (ss : List Scope) (x : DriverKind) (rest : List Part)
    → decls_of (driver_part ss x ∷ rest) ≡ decls_of rest
none_driven ss (k.Assign l e) rest = refl
none_driven ss (k.Comb s) rest = refl
none_driven ss (k.Clocked s) rest = refl

none_started : (ss : List Scope) (xs : List Start) → decls_of (map (start_part ss) xs) ≡ []
none_started ss [] = refl
none_started ss (x ∷ xs) = none_started ss xs

none_behind : (ss : List Scope) (drivers : List Driver) (xs : List Start)
    → decls_of (map (λ x. driver_part ss x.what) drivers ++ map (start_part ss) xs) ≡ []
none_behind ss [] xs = none_started ss xs
none_behind ss (x ∷ drivers) xs =
    none_driven ss x.what (map (λ y. driver_part ss y.what) drivers ++ map (start_part ss) xs)
    ∙ none_behind ss drivers xs

declared : (ds : List Decl) (rest : List Part) → decls_of rest ≡ []
    → decls_of (map (λ d. declares d) ds ++ rest) ≡ ds
declared [] rest h = h
declared (d ∷ ds) rest h = ap (λ (xs : List Decl). d ∷ xs) (declared ds rest h)

pub parts_declare : (ds : List Decl) (drivers : List Driver) (xs : List Start)
    → decls_of (parts_of ds drivers xs) ≡ ds
parts_declare ds drivers xs =
    let ss = flat_scopes ds in
    let driven = map (λ (x : Driver). driver_part ss x.what) drivers in
    let begun = map (start_part ss) xs in
    ap decls_of (append_assoc (map (λ d. declares d) ds) driven begun)
    ∙ declared ds (driven ++ begun) (none_behind ss drivers xs)

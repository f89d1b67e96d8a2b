-- Between functions: What functions promise each other. Which uses of macros the code remembers, since they changed
-- nothing. Rule of this project.
use Rattle.std.specs.Prelude.{
  ◌≡◌,
  ℕ,
  Bool,
  true,
  false,
  ◌&&◌,
  ◌==◌,
  List,
  [],
  Option,
  None,
  Some,
  slice_get,
}
use Rattle.std.specs.Map.{lookup}
use Rattle.std.specs.Str.{bytes_eq}
use Rattle.fv_text.specs.declared.pos.Pos.{Pos}
use Rattle.fv_text.specs.declared.token.Token.{Token}
use Rattle.vl_prep.specs.declared.quiet.Quiet.{Quiet}
use Rattle.vl_prep.specs.Prep.{Done, expand}

-- at which levels a use of the macro was seen
abbrev pub levels_of : Quiet → List ℕ → Option (List Bool)
levels_of q name = lookup (λ key. bytes_eq name key.items) q.levels.entries

abbrev pub flag_of : Option (List Bool) → ℕ → Option Bool
flag_of None n = None
flag_of (Some seen) n = slice_get seen n

abbrev pub WasSeen : Quiet → List ℕ → ℕ → Type 0
WasSeen q name n = flag_of (levels_of q name) n ≡ Some true

abbrev pub IsEmpty : Quiet → Type 0
IsEmpty q = (q.place ≡ None) × (q.levels.entries ≡ [])

-- a use of the macro at the place was seen, with as many levels left as here
abbrev pub IsSeen : Quiet → List ℕ → Pos → ℕ → Type 0
IsSeen q name place levels = (q.place ≡ Some place) × WasSeen q name levels

-- those of the place are kept, and others forgotten
pub record KeepsPlace (old : Quiet) (place : Pos) (new : Quiet) : Type 0 where
  pub there : new.place ≡ Some place
  pub same : (other : List ℕ) (n : ℕ) → WasSeen new other n → (old.place ≡ Some place) × WasSeen old other n

-- with the one more, nothing else is remembered that was not before
pub record NotesOne (old : Quiet) (name : List ℕ) (place : Pos) (levels : ℕ) (new : Quiet) : Type 0 where
  pub there : new.place ≡ Some place
  pub same : (other : List ℕ) (n : ℕ) → (bytes_eq name other && levels == n) ≡ false → WasSeen new other n
      → (old.place ≡ Some place) × WasSeen old other n

-- each use that is remembered changes nothing
pub record AreQuiet (q : Quiet) (done : Done) : Type 0 where
  pub nothing : (place : Pos) (name : List ℕ) (levels : ℕ) (text : List Token) →
      q.place ≡ Some place → WasSeen q name levels → done.macros name ≡ Some text
      → expand levels place text done ≡ done

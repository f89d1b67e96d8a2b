-- Between functions: Trees with labels, and their code. A data type that holds itself is coded through them: a value
-- is written as a tree with labels, and read back. Rule of this project.
use Rattle.std.specs.Prelude.{◌≡◌}
use Rattle.std.proofs.Common.{ap}
use base.Stored.{Coded, Gv, gnil, gcons}

mutual
  pub data Rose (L : Type 0) : Type 0 where
    node : L → Roses L → Rose L

  pub data Roses (L : Type 0) : Type 0 where
    none : Roses L
    more : Rose L → Roses L → Roses L

abbrev pub head : Gv → Gv
head (gcons a b) = a
head g = gnil

abbrev pub tail : Gv → Gv
tail (gcons a b) = b
tail g = gnil

module _ {L : Type 0} (c : Coded L) where
  abbrev mutual
    pub code : Rose L → Gv
    code (node l ts) = gcons (c.code l) (codes_of ts)

    pub codes_of : Roses L → Gv
    codes_of none = gnil
    codes_of (more t ts) = gcons (code t) (codes_of ts)

  mutual
    pub code_inj : (x y : Rose L) → code x ≡ code y → x ≡ y
    code_inj (node l ts) (node m us) p = λ i. node (c.inj l m (ap head p) i) (codes_inj ts us (ap tail p) i)

    pub codes_inj : (x y : Roses L) → codes_of x ≡ codes_of y → x ≡ y
    codes_inj none none p = λ i. none
    codes_inj (more t ts) (more u us) p = λ i. more (code_inj t u (ap head p) i) (codes_inj ts us (ap tail p) i)
    codes_inj none (more u us) p = cc
    codes_inj (more t ts) none p = cc

  abbrev pub coded_rose : Coded (Rose L)
  coded_rose = record { code = code; inj = code_inj }

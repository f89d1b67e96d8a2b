-- An expression that has a size without names has none left once constants are in their places.
use Rattle.std.specs.Prelude.{◌≡◌, refl, ℕ, List, [], ◌∷◌, Bool, true, false, is_some, is_none}
use Rattle.std.specs.Prelude.{Option, Some, None, bytes_eq, if◌then◌else◌}
use Rattle.std.proofs.Common.{ap, sym, ◌∙◌}
use Rattle.std.proofs.lemmas.Slice.Eq.{bytes_eq-Decides}
use Rattle.fv_text.specs.declared.pos.Pos.{Pos}
use Rattle.vl_tree.specs.Expr.{
  Expr,
  Exprs,
  Selects,
  number,
  name,
  paren,
  unary,
  binary,
  conditional,
  concat,
  repeat,
  cast,
  none,
  more,
  whole,
  bit,
  part,
  indexed,
}
use Rattle.vl_size.specs.declared.context.Context.{Context}
use Rattle.vl_size.specs.declared.decl.Decl.{Decl}
use Rattle.vl_size.specs.Divisors.{if_none, own_context, left_context, right_context, zero_divisor}
use Rattle.vl_size.specs.Divisors.{parts_zero_divisor, selects_zero_divisor, valid_size}
use Rattle.vl_size.specs.Places.{earlier_place, is_earlier}
use Rattle.vl_size.specs.Size.{◌>>=◌, size, sizes, vector_size, word_size, some_bits}
use Rattle.vl_size.specs.Size.{operand_of, no_names, index_of}
use Rattle.vl_size.specs.Table.{declared_as}
use Rattle.vl_size.specs.Way.{way, keeps_size}
use Rattle.vl_mean.specs.declared.const_number.Const.{Const}
use Rattle.vl_mean.specs.Constants.{settled, settled_exprs, settled_selects, named_constant, vector_of, number_or}
use Rattle.vl_mean.specs.Constants.{constant_operand}
use Rattle.vl_elab_spec.specs.Meanings.{Names, bound, constants, is_known}
use Rattle.vl_elab_spec.specs.Among.{AreAmong}

-- ---- what is there

bound_some : {A B : Type 0} (o : Option A) (k : A → Option B) (n : B) → (o >>= k) ≡ Some n
    → (m : A) × (o ≡ Some m) × (k m ≡ Some n)
bound_some None k n h = cc
bound_some (Some m) k n h = (m, refl, h)

some_of : (o : Option ℕ) (n : ℕ) → some_bits o ≡ Some n → (m : ℕ) × (o ≡ Some m)
some_of None n h = cc
some_of (Some m) n h = (m, refl)

is_there : (b : Bool) (p q : Pos) → (if b then Some q else Some p) ≡ None → ⊥
is_there true p q h = cc
is_there false p q h = cc

neither : (a b : Option Pos) → earlier_place a b ≡ None → (a ≡ None) × (b ≡ None)
neither None b h = (refl, h)
neither (Some p) None h = cc
neither (Some p) (Some q) h = absurd (is_there (is_earlier q p) p q h)

valid_both : (o : Option Pos) (m : Option ℕ) (n : ℕ) → if_none o m ≡ Some n → (o ≡ None) × (m ≡ Some n)
valid_both None m n h = (refl, h)
valid_both (Some p) m n h = cc

valid_of : (o : Option Pos) (m : Option ℕ) (n : ℕ) → o ≡ None → m ≡ Some n → if_none o m ≡ Some n
valid_of None m n h k = k
valid_of (Some p) m n h k = cc

some_or : Const → Option Const → Const
some_or a None = a
some_or a (Some b) = b

some_same : (a b : Const) → Some a ≡ Some b → a ≡ b
unfolding some_or
some_same a b e = ap (some_or a) e

module _ (f g : List ℕ → Option Const) (h : AreAmong f g) where
  -- none is declared, or the constant alone that is selected from
  abbrev IsSelected : List Decl → Type 0
  IsSelected ds = (text : List ℕ) (d : Decl) → declared_as ds text ≡ Some d
      → (c : Const) × (f text ≡ Some c) × (ds ≡ vector_of text c ∷ [])

  none_selected : IsSelected []
  none_selected text d e = cc

  one_selected : (text : List ℕ) (c : Const) → f text ≡ Some c → IsSelected (vector_of text c ∷ [])
  one_selected text c k other d e = by (bytes_eq other text) refl e
    where
      by : (b : Bool) → bytes_eq other text ≡ b → (if b then Some (vector_of text c) else None) ≡ Some d
          → (c' : Const) × (f other ≡ Some c') × (vector_of text c ∷ [] ≡ vector_of other c' ∷ [])
      by true same e =
          let equal : other ≡ text = (bytes_eq-Decides other text).0 same in
          (c, ap f equal ∙ k, ap (λ t. vector_of t c ∷ []) (sym equal))
      by false same e = cc

  own_declared : (text : List ℕ) (c : Const) → declared_as (vector_of text c ∷ []) text ≡ Some (vector_of text c)
  own_declared text c =
      ap (λ b. if b then Some (vector_of text c) else None) ((bytes_eq-Decides text text).1 refl)

  -- a name with a size is that of the constant that is selected from
  named_size : (ds : List Decl) → IsSelected ds → (p : Pos) (text : List ℕ) (xs : Selects) (m : ℕ)
      → size ds (name p text xs) ≡ Some m → (c : Const) × (f text ≡ Some c) × (ds ≡ vector_of text c ∷ [])
  named_size ds s p text xs m e =
      let found = bound_some (declared_as ds text) _ m e in s text found.0 found.1

  -- the selects of a constant with a size have sizes
  selected_size : (p : Pos) (text : List ℕ) (c : Const) (xs : Selects) (n : ℕ)
      → size (vector_of text c ∷ []) (name p text xs) ≡ Some n
      → vector_size (vector_of text c ∷ []) (vector_of text c) xs ≡ Some n
  selected_size p text c xs n e =
      sym (ap (λ o. o >>= λ d. if is_none d.words then vector_size (vector_of text c ∷ []) d xs
      else word_size (vector_of text c ∷ []) d xs) (own_declared text c)) ∙ e

  abbrev Settles : Selects → Selects → Type 0
  Settles xs ys = (ds : List Decl) → IsSelected ds → (d : Decl) (n : ℕ) → vector_size ds d xs ≡ Some n
      → selects_zero_divisor ds xs ≡ None → xs ≡ ys

  -- a select that is no number has no size
  unselected : (ds : List Decl) → IsSelected ds → (p : Pos) (text : List ℕ) (xs : Selects) (c : Const)
      → f text ≡ Some c → (m : ℕ) → size ds (name p text xs) ≡ Some m → selects_zero_divisor ds xs ≡ None
      → valid_size (vector_of text c ∷ []) (name p text xs) ≡ Some m
  unselected ds s p text xs c e m sized z =
      let found = named_size ds s p text xs m sized in
      let same : ds ≡ vector_of text c ∷ [] = found.2 ∙ ap (λ c. vector_of text c ∷ []) (some_same found.0 c
      (sym found.1 ∙ e)) in
      valid_of _ _ m (ap (λ ds. selects_zero_divisor ds xs) (sym same) ∙ z)
      (ap (λ ds. size ds (name p text xs)) (sym same) ∙ sized)

  -- in a select that has a size are constants alone
  selected : (ds : List Decl) → IsSelected ds → (k : Context) (p : Pos) (text : List ℕ) (xs ys : Selects) (c : Const)
      → f text ≡ Some c → Settles xs ys → (v : ℕ → ℕ) (o : Option ℕ)
      → valid_size (vector_of text c ∷ []) (name p text xs) ≡ o → (m : ℕ)
      → size ds (number_or p o (name p text xs) v) ≡ Some m
      → zero_divisor ds k (number_or p o (name p text xs) v) ≡ None → xs ≡ ys
  selected ds s k p text xs ys c e settles v None is m sized z =
      absurd (none_some (sym is ∙ unselected ds s p text xs c e m sized z))
    where
      none_some : None ≡ Some m → ⊥
      none_some e = cc
  selected ds s k p text xs ys c e settles v (Some n) is m sized z =
      let both = valid_both (selects_zero_divisor (vector_of text c ∷ []) xs) _ n is in
      settles (vector_of text c ∷ []) (one_selected text c e) (vector_of text c) n
      (selected_size p text c xs n both.1) both.0

  -- a name with its selects
  named : (ds : List Decl) → IsSelected ds → (k : Context) (p : Pos) (text : List ℕ) (xs ys : Selects)
      (o : Option Const) → f text ≡ o → Settles xs ys → (m : ℕ) → size ds (named_constant p text xs o) ≡ Some m
      → zero_divisor ds k (named_constant p text xs o) ≡ None
      → named_constant p text xs o ≡ named_constant p text ys (g text)
  named ds s k p text xs ys None e settles m sized z =
      let found = named_size ds s p text xs m sized in absurd (none_some found.0 (sym e ∙ found.1))
    where
      none_some : (c : Const) → None ≡ Some c → ⊥
      none_some c e = cc
  named ds s k p text whole ys (Some c) e settles m sized z =
      let same : whole ≡ ys = settles (vector_of text c ∷ []) (one_selected text c e) (vector_of text c) c.width refl
      refl in
      λ i. named_constant p text (same i) (sym (h text c e) i)
  named ds s k p text (bit q x ss) ys (Some c) e settles m sized z =
      let same = selected ds s k p text (bit q x ss) ys c e settles _ _ refl m sized z in
      λ i. named_constant p text (same i) (sym (h text c e) i)
  named ds s k p text (part q l r ss) ys (Some c) e settles m sized z =
      let same = selected ds s k p text (part q l r ss) ys c e settles _ _ refl m sized z in
      λ i. named_constant p text (same i) (sym (h text c e) i)
  named ds s k p text (indexed q x n ss) ys (Some c) e settles m sized z =
      let same = selected ds s k p text (indexed q x n ss) ys c e settles _ _ refl m sized z in
      λ i. named_constant p text (same i) (sym (h text c e) i)

  mutual
    pub stays : (ds : List Decl) → IsSelected ds → (k : Context) (e : Expr) (m : ℕ) → size ds (settled f e) ≡ Some m
        → zero_divisor ds k (settled f e) ≡ None → settled f e ≡ settled g e
    stays ds s k (number p n) m sized z = refl
    stays ds s k (name p text ss) m sized z =
        named ds s k p text (settled_selects f ss) (settled_selects g ss) (f text) refl
        (λ es t d n. selects_stay es t d ss n) m sized z
    stays ds s k (paren p x) m sized z = ap (paren p) (stays ds s k x m sized z)
    stays ds s k (unary p op x) m sized z =
        let inner = bound_some (size ds (settled f x)) _ m sized in
        ap (unary p op) (stays ds s (if keeps_size op then k else own_context ds (settled f x)) x inner.0 inner.1 z)
    stays ds s k (binary p op x y) m sized z =
        let left = bound_some (size ds (settled f x)) _ m sized in
        let right = bound_some (size ds (settled f y)) _ m left.2 in
        let parts = neither _ _ (neither _ _ z).1 in
        let first = stays ds s (left_context ds (way op) op k (settled f x) (settled f y)) x left.0 left.1 parts.0 in
        let second = stays ds s (right_context ds (way op) op k (settled f x) (settled f y)) y right.0 right.1
        parts.1 in
        λ i. binary p op (first i) (second i)
    stays ds s k (conditional p c x y) m sized z =
        let test = bound_some (size ds (settled f c)) _ m sized in
        let left = bound_some (size ds (settled f x)) _ m test.2 in
        let right = bound_some (size ds (settled f y)) _ m left.2 in
        let parts = neither _ _ z in
        let rest = neither _ _ parts.1 in
        let third = stays ds s (own_context ds (settled f c)) c test.0 test.1 parts.0 in
        let first = stays ds s k x left.0 left.1 rest.0 in
        let second = stays ds s k y right.0 right.1 rest.1 in
        λ i. conditional p (third i) (first i) (second i)
    stays ds s k (concat p es) m sized z =
        let inner = some_of (sizes ds (settled_exprs f es)) m sized in
        ap (concat p) (exprs_stay ds s es inner.0 inner.1 z)
    stays ds s k (repeat p n es) m sized z =
        let count = bound_some (size ds (settled f n)) _ m sized in
        let bits = bound_some (some_bits (sizes ds (settled_exprs f es))) _ m count.2 in
        let inner = some_of (sizes ds (settled_exprs f es)) bits.0 bits.1 in
        let parts = neither _ _ z in
        let first = stays ds s (own_context ds (settled f n)) n count.0 count.1 parts.0 in
        let second = exprs_stay ds s es inner.0 inner.1 parts.1 in
        λ i. repeat p (first i) (second i)
    stays ds s k (cast p to x) m sized z =
        ap (cast p to) (stays ds s (own_context ds (settled f x)) x m sized z)

    exprs_stay : (ds : List Decl) → IsSelected ds → (es : Exprs) (m : ℕ) → sizes ds (settled_exprs f es) ≡ Some m
        → parts_zero_divisor ds (settled_exprs f es) ≡ None → settled_exprs f es ≡ settled_exprs g es
    exprs_stay ds s none m sized z = refl
    exprs_stay ds s (more e es) m sized z =
        let here = bound_some (size ds (settled f e)) _ m sized in
        let rest = bound_some (sizes ds (settled_exprs f es)) _ m here.2 in
        let parts = neither _ _ z in
        let first = stays ds s (own_context ds (settled f e)) e here.0 here.1 parts.0 in
        let second = exprs_stay ds s es rest.0 rest.1 parts.1 in
        λ i. more (first i) (second i)

    -- of a vector, with one select at most
    selects_stay : (ds : List Decl) → IsSelected ds → (d : Decl) (ss : Selects) (m : ℕ)
        → vector_size ds d (settled_selects f ss) ≡ Some m → selects_zero_divisor ds (settled_selects f ss) ≡ None
        → settled_selects f ss ≡ settled_selects g ss
    selects_stay ds s d whole m sized z = refl
    selects_stay ds s d (bit p x whole) m sized z =
        let inner = bound_some (size ds (settled f x)) _ m sized in
        let parts = neither _ _ z in
        let first = stays ds s (own_context ds (settled f x)) x inner.0 inner.1 parts.0 in
        λ i. bit p (first i) whole
    selects_stay ds s d (part p l r whole) m sized z =
        let left = bound_some (size ds (settled f l)) _ m sized in
        let right = bound_some (size ds (settled f r)) _ m left.2 in
        let parts = neither _ _ (neither _ _ z).0 in
        let first = stays ds s (own_context ds (settled f l)) l left.0 left.1 parts.0 in
        let second = stays ds s (own_context ds (settled f r)) r right.0 right.1 parts.1 in
        λ i. part p (first i) (second i) whole
    selects_stay ds s d (indexed p x n whole) m sized z =
        let left = bound_some (size ds (settled f x)) _ m sized in
        let right = bound_some (size ds (settled f n)) _ m left.2 in
        let parts = neither _ _ (neither _ _ z).0 in
        let first = stays ds s (own_context ds (settled f x)) x left.0 left.1 parts.0 in
        let second = stays ds s (own_context ds (settled f n)) n right.0 right.1 parts.1 in
        λ i. indexed p (first i) (second i) whole
    selects_stay ds s d (bit p x (bit q y ss)) m sized z = cc
    selects_stay ds s d (bit p x (part q l r ss)) m sized z = cc
    selects_stay ds s d (bit p x (indexed q y n ss)) m sized z = cc
    selects_stay ds s d (part p a b (bit q y ss)) m sized z = cc
    selects_stay ds s d (part p a b (part q l r ss)) m sized z = cc
    selects_stay ds s d (part p a b (indexed q y n ss)) m sized z = cc
    selects_stay ds s d (indexed p a b (bit q y ss)) m sized z = cc
    selects_stay ds s d (indexed p a b (part q l r ss)) m sized z = cc
    selects_stay ds s d (indexed p a b (indexed q y n ss)) m sized z = cc

-- ---- whole expressions

some_there : {A : Type 0} (o : Option A) → is_some o ≡ true → (n : A) × (o ≡ Some n)
some_there None h = cc
some_there (Some n) h = (n, refl)

-- also where only the context of its place is without a divisor of 0
pub settled_stays : (f g : List ℕ → Option Const) → AreAmong f g → (k : Context) (e : Expr) (m : ℕ)
    → size [] (settled f e) ≡ Some m → zero_divisor [] k (settled f e) ≡ None → settled f e ≡ settled g e
settled_stays f g h k e m sized z = stays f g h [] (none_selected f g h) k e m sized z

pub known_settled : (ns : List Names) (all : List ℕ → Option Const) → AreAmong (constants ns) all → (e : Expr)
    → is_known ns e ≡ true → settled (constants ns) e ≡ settled all e
known_settled ns all h e known =
    let x = settled (constants ns) e in
    let found = some_there (valid_size [] x) known in
    let both = valid_both _ _ found.0 found.1 in
    stays (constants ns) all h [] (none_selected (constants ns) all h) (own_context [] x) e found.0 both.1 both.0

pub known_bound : (ns : List Names) (all : List ℕ → Option Const) → AreAmong (constants ns) all → (e : Expr)
    → is_known ns e ≡ true → bound ns e ≡ index_of (constant_operand all e)
known_bound ns all h e known = ap (λ x. index_of (operand_of [] no_names x)) (known_settled ns all h e known)

-- Names of constants, which differ.
use Rattle.std.specs.Prelude.{◌≡◌, refl, ℕ, List, [], ◌∷◌, ◌++◌, map, Bool, true, false, ◌||◌, bytes_eq}
use Rattle.std.specs.Prelude.{Option, Some, None, if◌then◌else◌}
use Rattle.std.proofs.Common.{ap, sym, ◌∙◌, true≢false, append_assoc}
use Rattle.std.proofs.lemmas.List.{append-nil, map-append}
use Rattle.vl_tree.specs.declared.declaration.Parameter.{Parameter}
use Rattle.vl_tree.specs.declared.declaration.ParameterKind.TheVariants as k
use Rattle.vl_tree.specs.Item.{
  Item,
  Items,
  declaration,
  integer,
  genvar,
  parameter,
  assign,
  always,
  initial,
  instance,
  generate,
  for_loop,
  if_only,
  if_else,
  no_items,
  more_items,
}
use Rattle.vl_mean.specs.declared.const_number.Const.{Const}
use Rattle.fv_text.proofs.Lookups.{bytes_eq-swap}
use Rattle.vl_mean.specs.Cells.{contains_name}
use Rattle.vl_mean.specs.Constants.{Constants, constant_of}
use Rattle.vl_mean.specs.Declarations.{Overrides, parameter_value, with_constants, with_item_parameters}
use Rattle.vl_mean.specs.Declarations.{with_items_parameters, with_parameters}
use Rattle.vl_mean.specs.Scopes.{Scope}
use Rattle.vl_mean.specs.Walk.{parameter_names}
use Rattle.vl_elab_const.specs.Openable.{Different, constant_names, item_constants, items_constants}

or_first : (a b : Bool) → (a || b) ≡ false → a ≡ false
or_first true b h = h
or_first false b h = refl

or_second : (a b : Bool) → (a || b) ≡ false → b ≡ false
or_second true b h = absurd (true≢false h)
or_second false b h = h

neither : (a b : Bool) → a ≡ false → b ≡ false → (a || b) ≡ false
neither true b h e = h
neither false b h e = e

-- ---- names that differ

before : (ns rest : List (List ℕ)) (n m : List ℕ) → contains_name (ns ++ n ∷ rest) m ≡ false → bytes_eq m n ≡ false
before [] rest n m h = or_first (bytes_eq m n) (contains_name rest m) h
before (x ∷ ns) rest n m h = before ns rest n m (or_second (bytes_eq m x) (contains_name (ns ++ n ∷ rest) m) h)

pub fresh : (ns rest : List (List ℕ)) (n : List ℕ) → Different (ns ++ n ∷ rest) → contains_name ns n ≡ false
fresh [] rest n h = refl
fresh (x ∷ ns) rest n h =
    neither (bytes_eq n x) (contains_name ns n) (bytes_eq-swap n x ∙ before ns rest n x h.0) (fresh ns rest n h.1)

lacks_front : (xs ys : List (List ℕ)) (n : List ℕ) → contains_name (xs ++ ys) n ≡ false → contains_name xs n ≡ false
lacks_front [] ys n h = refl
lacks_front (x ∷ xs) ys n h =
    neither (bytes_eq n x) (contains_name xs n) (or_first (bytes_eq n x) (contains_name (xs ++ ys) n) h)
    (lacks_front xs ys n (or_second (bytes_eq n x) (contains_name (xs ++ ys) n) h))

pub different_front : (xs ys : List (List ℕ)) → Different (xs ++ ys) → Different xs
different_front [] ys h = tt
different_front (x ∷ xs) ys h = (lacks_front xs ys x h.0, different_front xs ys h.1)

-- ---- the names of constants

pub names_append : (cs ds : Constants) → constant_names (cs ++ ds) ≡ constant_names cs ++ constant_names ds
names_append cs ds = map-append (λ (c : List ℕ × Const). c.0) cs ds

pub unknown : (cs : Constants) (n : List ℕ) → contains_name (constant_names cs) n ≡ false → constant_of cs n ≡ None
unknown [] n h = refl
unknown (c ∷ cs) n h = by (bytes_eq n c.0) h (unknown cs n)
  where
    by : (b : Bool) → (b || contains_name (constant_names cs) n) ≡ false
        → (contains_name (constant_names cs) n ≡ false → constant_of cs n ≡ None)
        → (if b then Some c.1 else constant_of cs n) ≡ None
    by true h f = absurd (true≢false h)
    by false h f = f h

module _ (os : Overrides) (ss : List Scope) where
  pub one_more : (cs : Constants) (x : Parameter) (names : List (List ℕ))
      → constant_names (cs ++ (x.name, parameter_value os (with_constants cs ss) x) ∷ []) ++ names
      ≡ constant_names cs ++ x.name ∷ names
  one_more cs x names =
      let v = parameter_value os (with_constants cs ss) x in
      ap (λ ns. ns ++ names) (names_append cs ((x.name, v) ∷ []))
      ∙ append_assoc (constant_names cs) (x.name ∷ []) names

  pub names_with_parameters : (cs : Constants) (xs : List Parameter)
      → constant_names (with_parameters os ss cs xs) ≡ constant_names cs ++ parameter_names xs
  names_with_parameters cs [] = sym (append-nil (constant_names cs))
  names_with_parameters cs (x ∷ xs) =
      names_with_parameters (cs ++ (x.name, parameter_value os (with_constants cs ss) x) ∷ []) xs
      ∙ one_more cs x (parameter_names xs)

pub names_with_item : (os : Overrides) (ss : List Scope) (cs : Constants) (x : Item)
    → constant_names (with_item_parameters os ss cs x) ≡ constant_names cs ++ item_constants x
names_with_item os ss cs (declaration attrs p d) = sym (append-nil (constant_names cs))
names_with_item os ss cs (integer attrs p xs) = sym (append-nil (constant_names cs))
names_with_item os ss cs (genvar attrs p xs) = sym (append-nil (constant_names cs))
names_with_item os ss cs (parameter attrs p k.Parameter xs) = names_with_parameters os ss cs xs
names_with_item os ss cs (parameter attrs p k.Localparam xs) = names_with_parameters [] ss cs xs
names_with_item os ss cs (assign attrs p xs) = sym (append-nil (constant_names cs))
names_with_item os ss cs (always attrs p event s) = sym (append-nil (constant_names cs))
names_with_item os ss cs (initial attrs p s) = sym (append-nil (constant_names cs))
names_with_item os ss cs (instance attrs p x) = sym (append-nil (constant_names cs))
names_with_item os ss cs (generate attrs p mark) = sym (append-nil (constant_names cs))
names_with_item os ss cs (for_loop attrs p head b) = sym (append-nil (constant_names cs))
names_with_item os ss cs (if_only attrs p c b) = sym (append-nil (constant_names cs))
names_with_item os ss cs (if_else attrs p c b d) = sym (append-nil (constant_names cs))

pub names_with_items : (os : Overrides) (ss : List Scope) (cs : Constants) (xs : Items)
    → constant_names (with_items_parameters os ss cs xs) ≡ constant_names cs ++ items_constants xs
names_with_items os ss cs no_items = sym (append-nil (constant_names cs))
names_with_items os ss cs (more_items x xs) =
    names_with_items os ss (with_item_parameters os ss cs x) xs
    ∙ ap (λ ns. ns ++ items_constants xs) (names_with_item os ss cs x)
    ∙ append_assoc (constant_names cs) (item_constants x) (items_constants xs)

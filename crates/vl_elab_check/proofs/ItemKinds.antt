-- Items by their kinds.
use Rattle.std.specs.Prelude.{◌≡◌, refl, ℕ, List, [], ◌∷◌, ◌++◌, true, false, Option, Some, None}
use Rattle.std.specs.Prelude.{Result, Ok, Err, OnOk}
use Rattle.std.proofs.Common.{ap, sym, ◌∙◌, subst}
use Rattle.std.proofs.lemmas.List.{append-nil, append_assoc}
use Rattle.fv_text.specs.declared.pos.Pos.{Pos}
use Rattle.vl_tree.specs.declared.item.Block as declared
use Rattle.vl_tree.specs.declared.item.ItemKind.TheVariants as k
use Rattle.vl_tree.specs.declared.part.LoopHead.{LoopHead}
use Rattle.vl_tree.specs.declared.source.Module.{Module}
use Rattle.vl_tree.specs.Attributes.{Attributes}
use Rattle.vl_tree.specs.Expr.{Expr}
use Rattle.vl_tree.specs.Item.{
  Item,
  Block,
  declaration,
  integer,
  genvar,
  parameter,
  assign,
  always,
  initial,
  instance,
  generate,
  for_loop,
  if_only,
  if_else,
}
use Rattle.vl_tree.specs.ItemView.{shown}
use Rattle.vl_mean.specs.Declarations.{names_of, labels_of}
use Rattle.vl_mean.specs.Walk.{Place}
use Rattle.vl_elab_spec.specs.declared.elab_fault.ElabFault.{ElabFault}
use Rattle.vl_elab_spec.specs.Expressions.{own_refusals}
use Rattle.vl_elab_spec.specs.Items.{head_refusals, item_refusals, labels_twice, placed_labels}
use Rattle.vl_elab_spec.specs.Meanings.{item_names, meaning_in, meanings_at}
use Rattle.vl_elab_spec.specs.Refused.{lowest}
use Rattle.vl_elab_names.specs.declared.set.NameSet.{NameSet}
use Rattle.vl_elab_names.specs.Known.{AreNames}
use Rattle.vl_elab_params.specs.declared.reached.Reached.{Reached}
use Rattle.vl_elab_params.specs.Reached.{IsReached}
use Rattle.vl_elab_check.specs.Here.{own_parameters, own_names}
use Rattle.vl_elab_check.specs.Kinds.{is_of_objects, instance_name, has_steps_within}

pub on_ok_always : {A E : Type 0} (r : Result A E) (P : Type 0) → P → OnOk r P
on_ok_always (Ok x) P h = h
on_ok_always (Err e) P h = tt

-- ---- an item that is of a kind

module _ (x y : Item) (e : x ≡ y) where
  pub refused_as : (ms : List Module) (at : Place) (g : Option ElabFault) → g ≡ lowest (item_refusals ms at y)
      → g ≡ lowest (item_refusals ms at x)
  refused_as ms at g h = h ∙ ap (λ z. lowest (item_refusals ms at z)) (sym e)

  pub named_as : (set : NameSet) (before : List (List ℕ)) → AreNames set (before ++ item_names y)
      → AreNames set (before ++ item_names x)
  named_as set before h = subst (λ z. AreNames set (before ++ item_names z)) (sym e) h

  pub reached_as : (reached : Reached) (at : Place) (before : List (List ℕ))
      → IsReached reached at (before ++ own_parameters y) → IsReached reached at (before ++ own_parameters x)
  reached_as reached at before h = subst (λ z. IsReached reached at (before ++ own_parameters z)) (sym e) h

-- no names
pub no_names : (set : NameSet) (before : List (List ℕ)) → AreNames set before → AreNames set (before ++ [])
no_names set before h = subst (AreNames set) (sym (append-nil before)) h

pub none_reached : (reached : Reached) (at : Place) (before : List (List ℕ)) → IsReached reached at before
    → IsReached reached at (before ++ [])
none_reached reached at before h = subst (IsReached reached at) (sym (append-nil before)) h

-- ---- its names

pub all_own : (x : Item) (before : List (List ℕ))
    → (before ++ own_parameters x) ++ own_names x ≡ before ++ item_names x
all_own (declaration attrs p d) before = append_assoc before [] (own_names (declaration attrs p d))
all_own (integer attrs p xs) before = append_assoc before [] (own_names (integer attrs p xs))
all_own (genvar attrs p xs) before = append_assoc before [] xs
all_own (parameter attrs p kind xs) before = append-nil (before ++ item_names (parameter attrs p kind xs))
all_own (assign attrs p xs) before = append_assoc before [] []
all_own (always attrs p event s) before = append_assoc before [] []
all_own (initial attrs p s) before = append_assoc before [] []
all_own (instance attrs p i) before = append_assoc before [] []
all_own (generate attrs p mark) before = append_assoc before [] []
all_own (for_loop attrs p head b) before = append_assoc before [] []
all_own (if_only attrs p c b) before = append_assoc before [] []
all_own (if_else attrs p c b d) before = append_assoc before [] []

same_name : (a b : List ℕ) → Some a ≡ Some b → a ∷ [] ≡ b ∷ []
same_name a b h = cc

-- ---- what stands before what is behind it

pub objects_own : (x : Item) → is_of_objects x ≡ true → own_names x ≡ names_of x
objects_own (declaration attrs p d) h = refl
objects_own (integer attrs p xs) h = refl
objects_own (genvar attrs p xs) h = refl
objects_own (parameter attrs p kind xs) h = cc
objects_own (assign attrs p xs) h = cc
objects_own (always attrs p event s) h = cc
objects_own (initial attrs p s) h = cc
objects_own (instance attrs p i) h = cc
objects_own (generate attrs p mark) h = cc
objects_own (for_loop attrs p head b) h = cc
objects_own (if_only attrs p c b) h = cc
objects_own (if_else attrs p c b d) h = cc

pub no_objects_own : (x : Item) → is_of_objects x ≡ false → own_names x ≡ []
no_objects_own (declaration attrs p d) h = cc
no_objects_own (integer attrs p xs) h = cc
no_objects_own (genvar attrs p xs) h = cc
no_objects_own (parameter attrs p kind xs) h = refl
no_objects_own (assign attrs p xs) h = refl
no_objects_own (always attrs p event s) h = refl
no_objects_own (initial attrs p s) h = refl
no_objects_own (instance attrs p i) h = refl
no_objects_own (generate attrs p mark) h = refl
no_objects_own (for_loop attrs p head b) h = refl
no_objects_own (if_only attrs p c b) h = refl
no_objects_own (if_else attrs p c b d) h = refl

pub within_names : (x : Item) → has_steps_within x ≡ true → item_names x ≡ []
within_names (declaration attrs p d) h = cc
within_names (integer attrs p xs) h = cc
within_names (genvar attrs p xs) h = cc
within_names (parameter attrs p kind xs) h = cc
within_names (assign attrs p xs) h = cc
within_names (always attrs p event s) h = cc
within_names (initial attrs p s) h = cc
within_names (instance attrs p i) h = refl
within_names (generate attrs p mark) h = cc
within_names (for_loop attrs p head b) h = refl
within_names (if_only attrs p c b) h = refl
within_names (if_else attrs p c b d) h = refl

pub other_names : (x : Item) → has_steps_within x ≡ false → item_names x ≡ names_of x
other_names (declaration attrs p d) h = refl
other_names (integer attrs p xs) h = refl
other_names (genvar attrs p xs) h = refl
other_names (parameter attrs p kind xs) h = refl
other_names (assign attrs p xs) h = refl
other_names (always attrs p event s) h = refl
other_names (initial attrs p s) h = refl
other_names (instance attrs p i) h = cc
other_names (generate attrs p mark) h = refl
other_names (for_loop attrs p head b) h = cc
other_names (if_only attrs p c b) h = cc
other_names (if_else attrs p c b d) h = cc

pub named_instance : (x : Item) (text : List ℕ) → instance_name x ≡ Some text → names_of x ≡ item_names x ++ text ∷ []
named_instance (declaration attrs p d) text h = cc
named_instance (integer attrs p xs) text h = cc
named_instance (genvar attrs p xs) text h = cc
named_instance (parameter attrs p kind xs) text h = cc
named_instance (assign attrs p xs) text h = cc
named_instance (always attrs p event s) text h = cc
named_instance (initial attrs p s) text h = cc
named_instance (instance attrs p i) text h = same_name i.name text h
named_instance (generate attrs p mark) text h = cc
named_instance (for_loop attrs p head b) text h = cc
named_instance (if_only attrs p c b) text h = cc
named_instance (if_else attrs p c b d) text h = cc

pub labels_behind : (x : Item) → instance_name x ≡ None → names_of x ≡ item_names x ++ labels_of x
labels_behind (declaration attrs p d) h = sym (append-nil _)
labels_behind (integer attrs p xs) h = sym (append-nil _)
labels_behind (genvar attrs p xs) h = sym (append-nil _)
labels_behind (parameter attrs p kind xs) h = sym (append-nil _)
labels_behind (assign attrs p xs) h = refl
labels_behind (always attrs p event s) h = refl
labels_behind (initial attrs p s) h = refl
labels_behind (instance attrs p i) h = cc
labels_behind (generate attrs p mark) h = refl
labels_behind (for_loop attrs p head b) h = refl
labels_behind (if_only attrs p c b) h = refl
labels_behind (if_else attrs p c b d) h = refl

-- ---- a loop

pub loop_refused : (x : Item) (attrs : Attributes) (p : Pos) (head : LoopHead) (b : Block)
    → x ≡ for_loop attrs p head b → (ms : List Module) (at : Place) (g : Option ElabFault)
    → g ≡ lowest (labels_twice at.earlier (placed_labels x)
    ++ head_refusals at p head (meaning_in (meanings_at at) head.variable))
    → g ≡ lowest (item_refusals ms at x)
loop_refused x attrs p head b same ms at g h =
    h ∙ ap (λ y. lowest (labels_twice at.earlier (placed_labels y)
    ++ head_refusals at p head (meaning_in (meanings_at at) head.variable))) same
    ∙ ap (λ y. lowest (item_refusals ms at y)) (sym same)

-- ---- an `if`, with or without the other block

module _ (x : Item) (attrs : Attributes) (p : Pos) (c : Expr) (b : declared.Block) (other : Option declared.Block)
    (same : x ≡ shown attrs p (k.If c b other)) where
  pub if_refused : (ms : List Module) (at : Place) (g : Option ElabFault)
      → g ≡ lowest (labels_twice at.earlier (placed_labels x) ++ own_refusals (meanings_at at) true c)
      → g ≡ lowest (item_refusals ms at x)
  if_refused ms at g h =
      h ∙ ap (λ y. lowest (labels_twice at.earlier (placed_labels y) ++ own_refusals (meanings_at at) true c)) same
      ∙ by other ∙ ap (λ y. lowest (item_refusals ms at y)) (sym same)
    where
      by : (o : Option declared.Block)
          → lowest (labels_twice at.earlier (placed_labels (shown attrs p (k.If c b o)))
          ++ own_refusals (meanings_at at) true c)
          ≡ lowest (item_refusals ms at (shown attrs p (k.If c b o)))
      by None = refl
      by (Some s) = refl

  if_names : item_names x ≡ []
  if_names = ap item_names same ∙ by other
    where
      by : (o : Option declared.Block) → item_names (shown attrs p (k.If c b o)) ≡ []
      by None = refl
      by (Some s) = refl

  if_parameters : own_parameters x ≡ []
  if_parameters = ap own_parameters same ∙ by other
    where
      by : (o : Option declared.Block) → own_parameters (shown attrs p (k.If c b o)) ≡ []
      by None = refl
      by (Some s) = refl

  pub if_named : (set : NameSet) (before : List (List ℕ)) → AreNames set before
      → AreNames set (before ++ item_names x)
  if_named set before h =
      subst (λ l. AreNames set (before ++ l)) (sym if_names) (no_names set before h)

  pub if_reached : (reached : Reached) (at : Place) (before : List (List ℕ)) → IsReached reached at before
      → IsReached reached at (before ++ own_parameters x)
  if_reached reached at before h =
      subst (λ l. IsReached reached at (before ++ l)) (sym if_parameters) (none_reached reached at before h)

-- What each name of an expression is, those of its texts are, and those under other names.
use Rattle.std.specs.Prelude.{◌≡◌, ℕ, List, [], ◌∷◌, ◌++◌, All}
use Rattle.std.proofs.lemmas.List.Elements.{All-nil, All-cons, All-append}
use Rattle.vl_tree.specs.Expr.{
  Expr,
  Exprs,
  Selects,
  number,
  name,
  paren,
  unary,
  binary,
  conditional,
  concat,
  repeat,
  cast,
  none,
  more,
  whole,
  bit,
  part,
  indexed,
}
use Rattle.vl_mean.specs.FlatLaw.{names_in, names_in_all, names_in_selects}
use Rattle.vl_mean.specs.Runs.{Each}
use Rattle.vl_mean_flat.specs.FullNames.{renamed, renamed_exprs, renamed_selects}
use Rattle.vl_mean_flat.specs.Names.{Names, AllNames, SelectsNames}
use Rattle.vl_mean_flat.proofs.EachOf.{both}
use Rattle.vl_elab_scope.specs.Texts.{texts, exprs_texts, selects_texts}

module _ (P : List ℕ → Type 0) where
  mutual
    pub each_text : (e : Expr) → Names P e → Each P (texts e)
    each_text (number p n) h = tt
    each_text (name p text ss) h = (h.0, selects_text ss h.1)
    each_text (paren p x) h = each_text x h
    each_text (unary p op x) h = each_text x h
    each_text (binary p op x y) h = both P (texts x) (texts y) (each_text x h.0) (each_text y h.1)
    each_text (conditional p c x y) h =
        both P (texts c) (texts x ++ texts y) (each_text c h.0)
        (both P (texts x) (texts y) (each_text x h.1.0) (each_text y h.1.1))
    each_text (concat p es) h = exprs_text es h
    each_text (repeat p n es) h = both P (texts n) (exprs_texts es) (each_text n h.0) (exprs_text es h.1)
    each_text (cast p to x) h = each_text x h

    pub exprs_text : (es : Exprs) → AllNames P es → Each P (exprs_texts es)
    exprs_text none h = tt
    exprs_text (more e es) h = both P (texts e) (exprs_texts es) (each_text e h.0) (exprs_text es h.1)

    pub selects_text : (ss : Selects) → SelectsNames P ss → Each P (selects_texts ss)
    selects_text whole h = tt
    selects_text (bit p i ss) h = both P (texts i) (selects_texts ss) (each_text i h.0) (selects_text ss h.1)
    selects_text (part p l r ss) h =
        both P (texts l) (texts r ++ selects_texts ss) (each_text l h.0)
        (both P (texts r) (selects_texts ss) (each_text r h.1.0) (selects_text ss h.1.1))
    selects_text (indexed p s n ss) h =
        both P (texts s) (texts n ++ selects_texts ss) (each_text s h.0)
        (both P (texts n) (selects_texts ss) (each_text n h.1.0) (selects_text ss h.1.1))

module _ (f : List ℕ → List ℕ) (Q : List ℕ → Type 0) where
  abbrev P : List ℕ → Type 0
  P text = Q (f text)

  mutual
    pub all_renamed : (e : Expr) → Names P e → All Q (names_in (renamed f e))
    all_renamed (number p n) h = All-nil Q
    all_renamed (name p text ss) h =
        All-cons Q (f text) (names_in_selects (renamed_selects f ss)) h.0 (selects_renamed ss h.1)
    all_renamed (paren p x) h = all_renamed x h
    all_renamed (unary p op x) h = all_renamed x h
    all_renamed (binary p op x y) h =
        All-append Q (names_in (renamed f x)) (names_in (renamed f y)) (all_renamed x h.0) (all_renamed y h.1)
    all_renamed (conditional p c x y) h =
        All-append Q (names_in (renamed f c) ++ names_in (renamed f x)) (names_in (renamed f y))
        (All-append Q (names_in (renamed f c)) (names_in (renamed f x)) (all_renamed c h.0) (all_renamed x h.1.0))
        (all_renamed y h.1.1)
    all_renamed (concat p es) h = exprs_renamed es h
    all_renamed (repeat p n es) h =
        All-append Q (names_in (renamed f n)) (names_in_all (renamed_exprs f es)) (all_renamed n h.0)
        (exprs_renamed es h.1)
    all_renamed (cast p to x) h = all_renamed x h

    exprs_renamed : (es : Exprs) → AllNames P es → All Q (names_in_all (renamed_exprs f es))
    exprs_renamed none h = All-nil Q
    exprs_renamed (more e es) h =
        All-append Q (names_in (renamed f e)) (names_in_all (renamed_exprs f es)) (all_renamed e h.0)
        (exprs_renamed es h.1)

    pub selects_renamed : (ss : Selects) → SelectsNames P ss → All Q (names_in_selects (renamed_selects f ss))
    selects_renamed whole h = All-nil Q
    selects_renamed (bit p i ss) h =
        All-append Q (names_in (renamed f i)) (names_in_selects (renamed_selects f ss)) (all_renamed i h.0)
        (selects_renamed ss h.1)
    selects_renamed (part p l r ss) h =
        All-append Q (names_in (renamed f l) ++ names_in (renamed f r)) (names_in_selects (renamed_selects f ss))
        (All-append Q (names_in (renamed f l)) (names_in (renamed f r)) (all_renamed l h.0) (all_renamed r h.1.0))
        (selects_renamed ss h.1.1)
    selects_renamed (indexed p s n ss) h =
        All-append Q (names_in (renamed f s) ++ names_in (renamed f n)) (names_in_selects (renamed_selects f ss))
        (All-append Q (names_in (renamed f s)) (names_in (renamed f n)) (all_renamed s h.0) (all_renamed n h.1.0))
        (selects_renamed ss h.1.1)

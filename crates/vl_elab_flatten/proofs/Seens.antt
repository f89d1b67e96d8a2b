-- What is seen of steps, one behind the other.
use Rattle.std.specs.Prelude.{◌≡◌, refl, List, [], ◌∷◌, ◌++◌, Result, Ok, Err, OnOk, IsErrAnd}
use Rattle.std.proofs.Common.{ap, sym, ◌∙◌, subst, append_assoc}
use Rattle.std.proofs.lemmas.List.{map-append}
use Rattle.vl_tree.specs.Item.{Block}
use Rattle.vl_mean.specs.Parts.{parts_of_steps}
use Rattle.vl_mean.specs.Runs.{Each}
use Rattle.vl_mean.specs.Walk.{Place, Step, block_step, connection, header, item, override, port}
use Rattle.vl_mean_flat.specs.StepScopes.{StepScopes}
use Rattle.vl_mean_flat.proofs.EachOf.{back, front}
use Rattle.vl_mean_flat.specs.Seen.{Seen, parts_of_seen, places_of_seen, seen_step, seen_steps}
use Rattle.vl_mean_flat.proofs.Places.{parts_seen, places_seen}
use Rattle.vl_elab_draft.specs.Written.{Written}
use Rattle.vl_elab_const.specs.Openable.{AreOpenable}
use Rattle.vl_elab_emit.specs.Behind.{MayStandBehind, StandBehind, followed_by, placed_steps}
use Rattle.vl_elab_emit.proofs.Standing.{both_behind, may_back, may_front, nothing_more}
use Rattle.vl_elab_flatten.specs.Ready.{CanBeOpened, IsReady, Writes, placed_seen}

pub seen_append : (xs ys : List Step) → seen_steps (xs ++ ys) ≡ seen_steps xs ++ seen_steps ys
seen_append xs ys = map-append seen_step xs ys

parts_append : (xs ys : List Seen) → parts_of_seen (xs ++ ys) ≡ parts_of_seen xs ++ parts_of_seen ys
parts_append [] ys = refl
parts_append (x ∷ xs) ys =
    ap (λ ps. x.parts ++ ps) (parts_append xs ys) ∙ sym (append_assoc x.parts (parts_of_seen xs) (parts_of_seen ys))

places_append : (xs ys : List Seen) → places_of_seen (xs ++ ys) ≡ places_of_seen xs ++ places_of_seen ys
places_append [] ys = refl
places_append (x ∷ xs) ys =
    ap (λ ps. x.places ++ ps) (places_append xs ys)
    ∙ sym (append_assoc x.places (places_of_seen xs) (places_of_seen ys))

pub placed_append : (xs ys : List Seen) → placed_seen (xs ++ ys) ≡ followed_by (placed_seen xs) (placed_seen ys)
placed_append xs ys = λ i. record { parts = parts_append xs ys i; places = places_append xs ys i }

pub steps_seen : (xs : List Step) → placed_steps xs ≡ placed_seen (seen_steps xs)
steps_seen xs = λ i. record { parts = parts_seen xs i; places = places_seen xs i }

-- ---- two, one behind the other

module _ (w : Written) (all xs ys : List Seen) (e : all ≡ xs ++ ys) where
  split : parts_of_seen all ≡ parts_of_seen xs ++ parts_of_seen ys
  split = ap parts_of_seen e ∙ parts_append xs ys

  pub ready_first : IsReady w all → IsReady w xs
  ready_first h = record {
    openable = front CanBeOpened xs ys (subst (Each CanBeOpened) e h.openable);
    may = may_front w (parts_of_seen xs) (parts_of_seen ys) (subst (MayStandBehind w) split h.may);
  }

  pub ready_second : (v : Written) → IsReady w all → Writes w xs v → IsReady v ys
  ready_second v h k = record {
    openable = back CanBeOpened xs ys (subst (Each CanBeOpened) e h.openable);
    may = may_back w v (placed_seen xs) (parts_of_seen ys) (subst (MayStandBehind w) split h.may) k;
  }

  pub writes_both : (v u : Written) → Writes w xs v → Writes v ys u → Writes w all u
  writes_both v u h k =
      subst (λ ps. StandBehind w ps u) (sym (ap placed_seen e ∙ placed_append xs ys))
      (both_behind w v u (placed_seen xs) (placed_seen ys) h k)

-- behind a block's own step, which has no parts
pub behind_block : (w : Written) (at : Place) (b : Block) (xs : List Seen)
    → IsReady w (seen_step (block_step at b) ∷ xs) → IsReady w xs
behind_block w at b xs h = record { openable = h.openable.1; may = h.may }

pub writes_nothing : (w : Written) (xs : List Seen) → xs ≡ [] → Writes w xs w
writes_nothing w xs e = subst (λ ys. Writes w ys w) (sym e) (nothing_more w)

-- ---- in a loop: what is left, of all that begins behind w

pub record Left (start : Written) (all : List Seen) (w : Written) (left : List Seen) : Type 0 where
  pub ready : IsReady w left
  pub joins : (v : Written) → Writes w left v → Writes start all v

pub left_all : (w : Written) (all : List Seen) → IsReady w all → Left w all w all
left_all w all h = record { ready = h; joins = λ v k. k }

pub left_on : (start : Written) (all : List Seen) (w v : Written) (left xs ys : List Seen) → left ≡ xs ++ ys
    → Left start all w left → Writes w xs v → Left start all v ys
left_on start all w v left xs ys e h k = record {
  ready = ready_second w left xs ys e v h.ready k;
  joins = λ u r. h.joins u (writes_both w left xs ys e v u k r);
}

pub left_none : (start : Written) (all : List Seen) (w : Written) (left : List Seen) → left ≡ []
    → Left start all w left → Writes start all w
left_none start all w left e h = h.joins w (writes_nothing w left e)

-- ---- from steps

each_opened : (xs : List Step) → Each (StepScopes AreOpenable) xs → Each CanBeOpened (seen_steps xs)
each_opened [] h = tt
each_opened (header at x ∷ xs) h = ((h.0, tt), each_opened xs h.1)
each_opened (port at u p q ∷ xs) h = ((h.0, tt), each_opened xs h.1)
each_opened (item at x ∷ xs) h = ((h.0, tt), each_opened xs h.1)
each_opened (override at m u given x ∷ xs) h = ((h.0, tt), each_opened xs h.1)
each_opened (block_step at b ∷ xs) h = ((h.0, tt), each_opened xs h.1)
each_opened (connection at m u inside given x ∷ xs) h = ((h.0.0, (h.0.1, tt)), each_opened xs h.1)

pub steps_ready : (w : Written) (xs : List Step) → Each (StepScopes AreOpenable) xs
    → MayStandBehind w (parts_of_steps xs) → IsReady w (seen_steps xs)
steps_ready w xs h m = record {
  openable = each_opened xs h;
  may = subst (MayStandBehind w) (parts_seen xs) m;
}

pub steps_written : (w v : Written) (xs : List Step) → Writes w (seen_steps xs) v
    → StandBehind w (placed_steps xs) v
steps_written w v xs h = subst (λ ps. StandBehind w ps v) (sym (steps_seen xs)) h

-- ---- want of memory

pub fails : {T E : Type 0} (r : Result T E) (Q : E → Type 0) (P : Type 0) → IsErrAnd r Q → OnOk r P
fails (Ok x) Q P h = absurd h
fails (Err y) Q P h = tt

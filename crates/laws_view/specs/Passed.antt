-- What a viewer's query that is not refused has passed.
use Rattle.std.specs.Prelude.{◌≡◌, refl, true, List, ℕ, zero, suc}
use Rattle.std.proofs.Common.{ap, arith}
use Rattle.model.specs.Choice.{or_then, unless}
use Rattle.model.specs.Number.{Bytes}
use Rattle.model.specs.Shape.{string_limit, text_fault}
use Rattle.model.specs.Record.{Rec}
use Rattle.model.specs.Image.{is_image}
use Rattle.model.specs.Lookup.{named}
use Rattle.model.specs.View.{visible, prefixes_in, prefix_fault, viewer_fault, query_fault}
use Rattle.laws.specs.Choice.{or_then-left, or_then_right, unless_true}

module _ (image list : Bytes) where
  pub viewer_image : viewer_fault image list ≡ 0 → is_image image ≡ true
  unfolding viewer_fault
  viewer_image h = unless_true (is_image image) 1 (omega arith) (or_then-left (unless (is_image image) 1) (prefix_fault list) h)

  pub viewer_prefixes : viewer_fault image list ≡ 0 → prefix_fault list ≡ 0
  unfolding viewer_fault
  viewer_prefixes h = or_then_right (unless (is_image image) 1) (prefix_fault list) h

  module _ (name : Bytes) (h : query_fault image list name ≡ 0) where
    abbrev behind : ℕ
    behind = or_then (text_fault string_limit name) (unless (visible (prefixes_in list) name) 25)

    pub query_viewer : viewer_fault image list ≡ 0
    unfolding query_fault
    query_viewer = or_then-left (viewer_fault image list) behind h

    name_passes : behind ≡ 0
    unfolding query_fault
    name_passes = or_then_right (viewer_fault image list) behind h

    pub query_text : text_fault string_limit name ≡ 0
    query_text = or_then-left (text_fault string_limit name) (unless (visible (prefixes_in list) name) 25) name_passes

    pub query_visible : visible (prefixes_in list) name ≡ true
    query_visible =
        unless_true (visible (prefixes_in list) name) 25 (omega arith)
        (or_then_right (text_fault string_limit name) (unless (visible (prefixes_in list) name) 25) name_passes)

-- a refusal says nothing of what would be found
pub named_on : (f : ℕ) (r s : List Rec) (out : Bytes) → (f ≡ 0 → r ≡ s) → named f r out ≡ named f s out
named_on zero r s out h = ap (λ x. named 0 x out) (h refl)
named_on (suc f) r s out h = refl

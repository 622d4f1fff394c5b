-- A node's config, by its place among the entries.
use mathlib.Core.Path.{◌≡◌, refl, sym, ap, ◌∙◌, subst}
use mathlib.Core.List.{List}
use mathlib.Core.Option.{Option, none, some}
use Prim.Native.Nat.{ℕ, ◌+◌, ◌-◌, ◌≤◌, ◌<◌}
use native.Mathlib.Omega.{arith}
use lib.ListN.{length, take, drop}
use lib.Seq.{slice, length-slice, drop-drop}
use Rattle.model.specs.Choice.{given}
use Rattle.model.specs.Number.{Bytes, AreBytes, bytes}
use Rattle.model.specs.Run.{run_of, field}
use Rattle.model.specs.Kind.{kind_of, kinds, kind_number}
use Rattle.model.specs.Key.{rank, key_of, key_rank, subject, config_key}
use Rattle.model.specs.Contents.{Entry}
use Rattle.model.specs.Move.{run_at}
use Rattle.model.specs.Lookup.{default_node, config_at, throttle}
use Rattle.model.specs.declared.Kind.TheVariants.{BrokerConfig}
use Rattle.laws.specs.Numbers.{length-bytes}
use Rattle.fields.specs.Fields.{fields_from, held, Within, Inside}
use Rattle.fields.specs.declared.Found.{Found}
use Rattle.fields.specs.declared.Found.TheVariants.{Part, Missing}
use Rattle.keys.specs.Keys.{run_in}
use Rattle.keys.proofs.Found.{lent_slice}
use Rattle.entries.specs.Entries.{Entries, Placed}
use Rattle.image_entries.proofs.Records.{headed}
use Rattle.find.specs.Found.{Query, query_key}
use Rattle.entries.specs.Held.{entries_in}
use Rattle.find.proofs.Held.{Held, held as held_at, held-run, none-run}
use Rattle.lookup_rates.specs.Rates.{rate_in}
use Rattle.lookup_throttles.specs.Throttles.{rate_by}

-- 1. What is sought

pub config_query : (node : ℕ) {id : Bytes} (name : Bytes) → id ≡ bytes 8 node → length name ≤ 255 → Query 6 id name
unfolding kind_of kinds field
config_query node {id} name e h = rw e (record {
  of = BrokerConfig;
  known = refl;
  first_fits = omega (arith, length-bytes 8 node);
  second_fits = h;
  widths = length-bytes 8 node;
})

config_key_lem : (node : ℕ) (id name : Bytes) → id ≡ bytes 8 node → query_key 6 id name ≡ config_key (bytes 8 node) name
unfolding query_key kind_of kinds key_of subject field
config_key_lem node id name e = rw e refl

-- 2. The value at its place

module _ (s : Bytes) (node : ℕ) (id name : Bytes) (e : id ≡ bytes 8 node) {at end : ℕ} (p : Placed s (query_key 6 id name) at end) where
  same_config : run_at (query_key 6 id name) (entries_in s) ≡ run_at (config_key (bytes 8 node) name) (entries_in s)
  same_config = ap (λ k. run_at k (entries_in s)) (config_key_lem node id name e)

  pub no_config : end ≤ at → (held s Missing ≡ config_at node name (entries_in s)) × Within (length s) Missing
  unfolding held Within
  no_config empty = (sym (ap (λ o. given o none (field 3)) (sym same_config ∙ none-run s p empty)), tt)

  module _ (are : AreBytes s) (whole : Entries s) (longer : at < end) where
    config_held : Held s (query_key 6 id name) BrokerConfig (take (end - at) (drop at s))
    unfolding query_key kind_of kinds key_of key_rank rank subject
    config_held = held_at s p are whole longer BrokerConfig refl (omega arith)

    pub inside : Inside s (record { at = at + 3; to = end })
    inside =
        let long : length (take (end - at) (drop at s)) ≡ end - at = ap length (lent_slice s at end p.order) ∙ length_part in
        (omega (arith, headed (take (end - at) (drop at s)) config_held.is, long), p.most)
      where
        length_part : length (slice at end s) ≡ end - at
        length_part = length-slice at end s p.most

    run-there : fields_from s (record { at = at + 3; to = end }) ≡ run_in (take (end - at) (drop at s))
    run-there = ap run_of (sym (ap (drop 3) (lent_slice s at end p.order) ∙ drop-drop 3 at (take end s)))

    pub config_found : (r : Found) → (held s r ≡ field 3 (fields_from s (record { at = at + 3; to = end }))) × Within end r
        → (held s r ≡ config_at node name (entries_in s)) × Within (length s) r
    unfolding kind_number
    config_found r f =
        (f.0 ∙ ap (field 3) run-there ∙ sym (ap (λ o. given o none (field 3)) (sym same_config ∙ held-run config_held refl)), wider r f.1)
      where
        wider : (r : Found) → Within end r → Within (length s) r
        wider (Part start len) w = unfold Within in omega (arith, w, p.most)
        wider Missing w = unfold Within in tt

pub part_in : {n start len : ℕ} (r : Found) → Within n r → r ≡ Part start len → start + len ≤ n
unfolding Within
part_in {n} {start} {len} r w e = subst (Within n) e w

-- 3. The rate

pub value_rate : (s : Bytes) {start len : ℕ} {o : Option Bytes} {r : Found} → held s r ≡ o → r ≡ Part start len → {x : Option ℕ}
    → x ≡ rate_in (take (start + len - start) (drop start s)) → x ≡ rate_by o
unfolding held
value_rate s {start} {len} {o} {r} e f q =
    let there : some (slice start (start + len) s) ≡ o = sym (ap (held s) f) ∙ e in
    q ∙ ap rate_in (lent_slice s start (start + len) (omega arith)) ∙ ap rate_by there

pub no_value : (s : Bytes) {o : Option Bytes} {r : Found} → held s r ≡ o → r ≡ Missing → none ≡ o
unfolding held
no_value s e f = sym (ap (held s) f) ∙ e

pub own_rate : (node : ℕ) (name : Bytes) (l : List Entry) (v : Bytes) → config_at node name l ≡ some v → throttle node name l ≡ rate_in v
unfolding throttle rate_in
own_rate node name l v e = rw e refl

pub own_value : (s : Bytes) (node : ℕ) (name : Bytes) (l : List Entry) {start len : ℕ} {r : Found} → held s r ≡ config_at node name l → r ≡ Part start len
    → {x : Option ℕ} → x ≡ rate_in (take (start + len - start) (drop start s)) → x ≡ throttle node name l
unfolding held
own_value s node name l {start} {len} {r} e f q =
    let there : config_at node name l ≡ some (slice start (start + len) s) = sym e ∙ ap (held s) f in
    q ∙ ap rate_in (lent_slice s start (start + len) (omega arith)) ∙ sym (own_rate node name l (slice start (start + len) s) there)

pub default_rate : (node : ℕ) (name : Bytes) (l : List Entry) → config_at node name l ≡ none → throttle node name l ≡ rate_by (config_at default_node name l)
unfolding throttle rate_in
default_rate node name l e = rw e refl

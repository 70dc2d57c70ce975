-- The rules as a test that computes: for each rule a decision (`Dec`) of the very statement.
use Rattle.std.specs.Prelude.{ℕ, ◌+◌, ◌-◌, ◌%◌, List, [], ◌∷◌, length, get_or}
use Rattle.std.proofs.Math.Decide.{ℕ_discrete, dec_le, dec_lt}
use Rattle.lists.specs.Characters.{solidus, less_than, greater_than}
use Rattle.lists.specs.Decide.{◌and◌, ◌implies◌, same, is_true, is_false}
use Rattle.utf8.specs.Table.{is_utf8, walk, in_range}
use Rattle.utf8.specs.Table as utf8
use Rattle.table.specs.Row.{Row, rows_of}
use Rattle.table.specs.Rules.{ends_in_gt, in_tag_only, is_tag, may_be_in_tag, may_follow_root, needs_element}
use Rattle.table.specs.Rules.{most_rows, most_bytes, most_open, most_kind, uses_name, uses_value}
use Rattle.table.specs.Rules.{Place, at_first, after, KnownKind, ZeroFields}
use Rattle.table.specs.Rules.{FilledSpan, FilledSpans, LocalStart, last_lt, begin_of, TagBegins, EndsIn, Ending, TagOrder, NeedsOpen}
use Rattle.table.specs.Rules.{AfterRoot, ErrorLast, OpenLimit, RowRules, EachRow, none, row, last_position, Rules, TableRules}

unfoldable pub dec_kind : (r : Row) → Dec (KnownKind r)
unfolding dec_le
dec_kind r = dec_le 1 r.kind and dec_le r.kind most_kind

unfoldable pub dec_zero : (r : Row) → Dec (ZeroFields r)
unfolding ℕ_discrete
dec_zero r =
    same (λ t. record { prefix = t.0; local = t.1.0; value = t.1.1.0; empty_prefix = t.1.1.1.0; empty_value = t.1.1.1.1 })
    (λ z. (z.prefix, (z.local, (z.value, (z.empty_prefix, z.empty_value)))))
    ((is_false (uses_name r.kind) implies ℕ_discrete r.prefix_len 0)
    and (is_false (uses_name r.kind) implies ℕ_discrete r.local_start 0 and ℕ_discrete r.local_len 0)
    and (is_false (uses_value r.kind) implies ℕ_discrete r.value_len 0)
    and (ℕ_discrete r.prefix_len 0 implies ℕ_discrete r.prefix_start 0)
    and (ℕ_discrete r.value_len 0 implies ℕ_discrete r.value_start 0))

unfoldable pub dec_span : (previous own from len : ℕ) → Dec (FilledSpan previous own from len)
unfolding dec_le dec_lt
dec_span previous own from len = dec_lt 0 len implies dec_le previous from and dec_le (from + len) own

unfoldable pub dec_spans : (p : Place) (r : Row) → Dec (FilledSpans p r)
unfolding dec_span
dec_spans p r =
    same (λ t. record { prefix = t.0; local = t.1.0; value = t.1.1 }) (λ f. (f.prefix, (f.local, f.value)))
    (dec_span p.position r.position r.prefix_start r.prefix_len
    and dec_span p.position r.position r.local_start r.local_len
    and dec_span p.position r.position r.value_start r.value_len)

unfoldable pub dec_local : (p : Place) (r : Row) → Dec (LocalStart p r)
unfolding dec_le
dec_local p r = is_true (uses_name r.kind) implies dec_le p.position r.local_start and dec_le r.local_start r.position

unfoldable pub dec_tag : (body : List ℕ) (p : Place) (r : Row) → Dec (TagBegins body p r)
unfolding ℕ_discrete dec_le dec_lt last_lt
dec_tag body p r =
    is_true (is_tag r.kind) implies
    same (λ t. record { is = t.0; before = t.1.0; late = t.1.1.0; prefix = t.1.1.1 })
    (λ l. (l.is, (l.before, (l.late, l.prefix))))
    (ℕ_discrete (get_or body (begin_of body r) 0) less_than
    and dec_lt (begin_of body r) r.local_start
    and dec_le p.position (begin_of body r)
    and (dec_lt 0 r.prefix_len implies dec_lt (begin_of body r) r.prefix_start))

unfoldable pub dec_ends : (body : List ℕ) (r : Row) (back b : ℕ) → Dec (EndsIn body r back b)
unfolding ℕ_discrete dec_le
dec_ends body r back b = dec_le back r.position and ℕ_discrete (get_or body (r.position - back) 0) b

unfoldable pub dec_ending : (body : List ℕ) (r : Row) → Dec (Ending body r)
unfolding ℕ_discrete dec_ends
dec_ending body r =
    same (λ t. record { gt = t.0; slash = t.1 }) (λ e. (e.gt, e.slash))
    ((is_true (ends_in_gt r.kind) implies dec_ends body r 1 greater_than)
    and (ℕ_discrete r.kind 5 implies dec_ends body r 2 solidus))

unfoldable pub dec_order : (p : Place) (r : Row) → Dec (TagOrder p r)
dec_order p r =
    same (λ t. record { inside = t.0; outside = t.1 }) (λ o. (o.inside, o.outside))
    ((is_true p.in_tag implies is_true (may_be_in_tag r.kind))
    and (is_false p.in_tag implies is_false (in_tag_only r.kind)))

unfoldable pub dec_open : (p : Place) (r : Row) → Dec (NeedsOpen p r)
unfolding dec_lt
dec_open p r = is_true (needs_element r.kind) implies dec_lt 0 p.nesting

unfoldable pub dec_root : (p : Place) (r : Row) → Dec (AfterRoot p r)
unfolding ℕ_discrete
dec_root p r = is_true p.rooted implies ℕ_discrete p.nesting 0 implies is_true (may_follow_root r.kind)

unfoldable pub dec_error : (r : Row) (rest : List Row) → Dec (ErrorLast r rest)
unfolding ℕ_discrete
dec_error r rest = ℕ_discrete r.kind 8 implies ℕ_discrete (length rest) 0

unfoldable pub dec_limit : (p : Place) (r : Row) → Dec (OpenLimit p r)
unfolding ℕ_discrete dec_lt
dec_limit p r = ℕ_discrete r.kind 1 implies dec_lt p.nesting most_open

unfoldable pub dec_row : (body : List ℕ) (p : Place) (r : Row) (rest : List Row) → Dec (RowRules body p r rest)
unfolding dec_le dec_kind dec_zero dec_spans dec_local dec_tag dec_ending dec_order dec_open dec_root dec_error dec_limit
dec_row body p r rest =
    same
    (λ t. record {
      known_kind = t.0;
      zero_fields = t.1.0;
      position_rises = t.1.1.0;
      filled_spans = t.1.1.1.0;
      local_start = t.1.1.1.1.0;
      tag_begins = t.1.1.1.1.1.0;
      ending = t.1.1.1.1.1.1.0;
      tag_order = t.1.1.1.1.1.1.1.0;
      needs_open = t.1.1.1.1.1.1.1.1.0;
      after_root = t.1.1.1.1.1.1.1.1.1.0;
      error_last = t.1.1.1.1.1.1.1.1.1.1.0;
      open_limit = t.1.1.1.1.1.1.1.1.1.1.1;
    })
    (λ k. (
      k.known_kind,
      (
        k.zero_fields,
        (
          k.position_rises,
          (
            k.filled_spans,
            (
              k.local_start,
              (
                k.tag_begins,
                (k.ending, (k.tag_order, (k.needs_open, (k.after_root, (k.error_last, k.open_limit))))),
              ),
            ),
          ),
        ),
      ),
    ))
    (dec_kind r and dec_zero r and dec_le p.position r.position and dec_spans p r and dec_local p r and dec_tag body p r
    and dec_ending body r and dec_order p r and dec_open p r and dec_root p r and dec_error r rest and dec_limit p r)

unfoldable pub dec_each : (body : List ℕ) (p : Place) (rows : List Row) → Dec (EachRow body p rows)
unfolding dec_row
dec_each body p [] = yes none
dec_each body p (r ∷ rest) = same (λ t. row t.0 t.1) first (dec_row body p r rest and dec_each body (after p r) rest)
  where
    first : EachRow body p (r ∷ rest) → RowRules body p r rest × EachRow body (after p r) rest
    first (row k t) = (k, t)

unfoldable pub dec_rules : (body : List ℕ) (rows : List Row) (final : ℕ) → Dec (Rules body rows final)
unfolding dec_le dec_lt dec_each is_utf8 walk in_range utf8.after utf8.table
dec_rules body rows final =
    same
    (λ t. record {
      few_rows = t.0;
      few_bytes = t.1.0;
      utf8 = t.1.1.0;
      ends = t.1.1.1.0;
      within = t.1.1.1.1.0;
      each = t.1.1.1.1.1;
    })
    (λ k. (k.few_rows, (k.few_bytes, (k.utf8, (k.ends, (k.within, k.each))))))
    (dec_le (length rows) most_rows and dec_le (length body) most_bytes
    and (dec_lt 0 (length rows) implies is_true (is_utf8 body))
    and dec_le (last_position 0 rows) final and dec_le final (length body) and dec_each body at_first rows)

-- whether a table obeys the rules
unfoldable pub dec_table : (body table : List ℕ) (final : ℕ) → Dec (TableRules body table final)
unfolding ℕ_discrete dec_rules rows_of
dec_table body table final =
    same (λ t. record { whole = t.0; rules = t.1 }) (λ k. (k.whole, k.rules))
    (ℕ_discrete (length table % 8) 0 and dec_rules body (rows_of table) final)

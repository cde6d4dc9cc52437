-- The built-in classes, each with its superclass.
use Rattle.std.specs.Prelude.{ℕ, ◌+◌, false, List, [], fold, map, unwrap_or}
use Rattle.std.specs.Borrow.{Bor}
use Rattle.gv_base.specs.Names.{name_of, with_name}
use Rattle.gv_base.specs.declared.exception.ExceptionKind.{ExceptionKind}
use Rattle.gv_base.specs.declared.exception.ExceptionKind.TheVariants.{Throwable, Exception, Error, AssertionError, RuntimeException, NullPointerException, IllegalArgumentException, NumberFormatException, IllegalStateException, IndexOutOfBoundsException, StringIndexOutOfBoundsException, ArithmeticException, NoSuchElementException, UnsupportedOperationException, ClassCastException, GroovyCastException, GroovyRuntimeException, MissingMethodException, MissingPropertyException, ReadOnlyPropertyException}
use Rattle.gv_classes.specs.declared.built_in.TheConstants.{TEXTS}
use Rattle.gv_classes.specs.declared.ids.TheConstants.{THROWABLE}
use Rattle.gv_classes.specs.declared.declared.Declared.{Declared}

-- what pairs of references point to
abbrev pub texts_of : List (Bor (List ℕ) × Bor (List ℕ)) → List (List ℕ × List ℕ)
texts_of rows = map (λ row. (row.0.now, row.1.now)) rows

-- the rows that src/built_in.rt writes out: a class's name, and its superclass's
unfoldable pub rows : List (List ℕ × List ℕ)
rows = map (λ row. (row.0.now, row.1.now)) TEXTS

-- the class of a row, in a table that has its names
abbrev pub built_in_class : List (List ℕ) → List ℕ × List ℕ → Declared
built_in_class names row = record {
  name = unwrap_or (name_of names row.0) 0;
  above = unwrap_or (name_of names row.1) 0;
  intercepts = false;
  place = record { file = 0; line = 1; column = 1 };
  members = [];
}

-- the table of names with both texts of each row
abbrev pub with_texts : List (List ℕ) → List (List ℕ × List ℕ) → List (List ℕ)
with_texts names rows = fold (λ names row. with_name (with_name names row.0) row.1) names rows

-- the exception classes come in the order of their kinds
abbrev pub place_of : ExceptionKind → ℕ
place_of Throwable = 0
place_of Exception = 1
place_of Error = 2
place_of AssertionError = 3
place_of RuntimeException = 4
place_of NullPointerException = 5
place_of IllegalArgumentException = 6
place_of NumberFormatException = 7
place_of IllegalStateException = 8
place_of IndexOutOfBoundsException = 9
place_of StringIndexOutOfBoundsException = 10
place_of ArithmeticException = 11
place_of NoSuchElementException = 12
place_of UnsupportedOperationException = 13
place_of ClassCastException = 14
place_of GroovyCastException = 15
place_of GroovyRuntimeException = 16
place_of MissingMethodException = 17
place_of MissingPropertyException = 18
place_of ReadOnlyPropertyException = 19

abbrev pub exception_class : ExceptionKind → ℕ
exception_class kind = THROWABLE + place_of kind

-- the names of the built-in classes, by their numbers
abbrev pub built_in_names : List (List ℕ)
built_in_names = map (λ row. row.0) rows

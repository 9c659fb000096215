pub mod As

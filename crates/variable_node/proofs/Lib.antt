pub mod TranslateLaws
